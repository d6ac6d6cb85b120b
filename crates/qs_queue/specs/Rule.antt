-- The rule that a queue of one sender and one taker keeps.
use Rattle.std.specs.Prelude.{◌≡◌, ◌⊎◌, ℕ, true, false, List, [], ◌∷◌, ◌++◌}
use mathlib.Core.Option.{some}
use lib.ListN.{get_elem?}
use Rattle.qs_queue.specs.declared.rule.Known.{Known}

module _ {T K : Type 0} where
  -- the first pass, before the queue has a key
  abbrev pub opening : K → Known T K
  opening key = record { opens = true; sends = false; takes = false; key = key; sent = []; received = [] }

  -- the sender's pass
  abbrev pub sending : K → List T → Known T K
  sending key sent = record { opens = false; sends = true; takes = false; key = key; sent = sent; received = [] }

  -- the taker's pass
  abbrev pub taking : K → List T → Known T K
  taking key received = record { opens = false; sends = false; takes = true; key = key; sent = []; received = received }

  -- both in one
  abbrev pub whole : K → List T → List T → Known T K
  whole key sent received =
      record { opens = false; sends = true; takes = true; key = key; sent = sent; received = received }

  -- a pass that was joined to another
  abbrev pub spent : K → Known T K
  spent key = record { opens = false; sends = false; takes = false; key = key; sent = []; received = [] }

  -- what a pass knows where only the pass `from` sends and only the pass `to` takes
  abbrev pub Fits : K → ℕ → ℕ → List T → List T → ℕ → Known T K → Type 0
  Fits key from to sent received pass v =
      (v.opens ≡ false)
      × (v.sends ≡ true → (pass ≡ from) × (v.sent ≡ sent) × (v.key ≡ key))
      × (v.takes ≡ true → (pass ≡ to) × (v.received ≡ received) × (v.key ≡ key))

  -- what was received and what the queue holds is what was sent, which is good
  abbrev pub Runs : (K → List T → Type 0) → List T → List (Known T K) → Type 0
  Runs good items views =
      (key : K) × (from : ℕ) × (to : ℕ) × (sent : List T) × (received : List T)
      × (sent ≡ received ++ items) × good key sent
      × ((pass : ℕ) (v : Known T K) → get_elem? views pass ≡ some v → Fits key from to sent received pass v)

  -- the queue has its first pass alone and is empty, or it runs
  abbrev pub Keeps : (K → List T → Type 0) → List T → List (Known T K) → Type 0
  Keeps good items views = ((key : K) × (views ≡ opening key ∷ []) × (items ≡ [])) ⊎ Runs good items views
