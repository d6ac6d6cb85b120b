-- How the values of a chunk lie in its places.
use Rattle.std.specs.Prelude.{◌≡◌, ℕ, ◌+◌, ◌-◌, ◌<◌, ◌≤◌, ◌⊎◌, List, [], ◌∷◌, ◌++◌, map, length, take, drop, replicate, Option, Some, None}

-- the place that lies `steps` on from `start`, round the end of the places
abbrev pub IsOn : ℕ → ℕ → ℕ → ℕ → Type 0
IsOn start steps capacity place = (place < capacity) × ((place ≡ start + steps) ⊎ (place + capacity ≡ start + steps))

-- a list from the index `start` on, and round its end
unfoldable pub rotate : {A : Type 0} → ℕ → List A → List A
rotate start xs = drop start xs ++ take start xs

module _ {X : Type 0} where
  -- the values that are there
  abbrev pub values_of : List (Option X) → List X
  values_of [] = []
  values_of (None ∷ places) = values_of places
  values_of (Some value ∷ places) = value ∷ values_of places

  -- as many places, of which the first have the values
  unfoldable pub places_with : List X → ℕ → List (Option X)
  places_with values capacity = map Some values ++ replicate (capacity - length values) None

  -- the values, the first one first
  unfoldable pub ring_values : ℕ → List (Option X) → List X
  ring_values start places = values_of (rotate start places)

  -- `count` values lie from `start` on, side by side, and each other place is empty
  pub record IsRing (places : List (Option X)) (capacity start count : ℕ) : Type 0 where
    pub long : length places ≡ capacity
    pub begins : start < capacity
    pub counted : (count ≡ length (ring_values start places)) × (count ≤ capacity)
    pub laid : rotate start places ≡ places_with (ring_values start places) capacity
