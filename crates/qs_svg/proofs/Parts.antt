-- Shapes that are put at the end one after another are put there as one list. Every function that draws stands on it:
-- it is taken once for each shape but the first.
use Rattle.qs_svg.proofs.Common.{ℕ, ◌+◌, List, [], ◌∷◌, ◌++◌, ap, sym, ◌∙◌, append_assoc, append-nil, add-one, OnOk, Result, Ok, Err, concat-append, Puts, Shape, shapes_up_to, Draws}
use Rattle.std.specs.List.{concat}

-- one shape
pub drawn : {shape : Shape} {first after : List ℕ} → Puts shape first after → Draws (shape ∷ []) first after
drawn {shape} {first} puts = record { is = puts.is ∙ ap (λ l. first ++ l) (sym (append-nil shape)) }

-- shapes, and others after them
pub and_then : {shapes others : List Shape} {first before after : List ℕ} → Draws shapes first before → Draws others before after
    → Draws (shapes ++ others) first after
and_then {shapes} {others} {first} one other = record {
  is =
      other.is ∙ ap (λ l. l ++ concat others) one.is ∙ append_assoc first (concat shapes) (concat others)
      ∙ ap (λ l. first ++ l) (sym (concat-append shapes others));
}

-- the same where the last is drawn by a call whose result is handed on
pub last_shape : {E : Type 0} (r : Result (Unit {0}) E) (shape : Shape) (first after : List ℕ) → OnOk r (Puts shape first after) → OnOk r (Draws (shape ∷ []) first after)
last_shape (Ok x) shape first after puts = drawn puts
last_shape (Err e) shape first after puts = tt

pub last_shapes : {E : Type 0} {shapes : List Shape} {first before : List ℕ} (r : Result (Unit {0}) E) (others : List Shape) (after : List ℕ)
    → Draws shapes first before → OnOk r (Draws others before after) → OnOk r (Draws (shapes ++ others) first after)
last_shapes (Ok x) others after one other = and_then one other
last_shapes (Err e) others after one other = tt

-- the shapes of one place more
pub one_place_more : (shapes : ℕ → List Shape) (n : ℕ) {first before after : List ℕ} → Draws (shapes_up_to n shapes) first before
    → Draws (shapes n) before after → Draws (shapes_up_to (n + 1) shapes) first after
one_place_more shapes n before last = rw add-one (and_then before last)

-- shapes as the text that they are
pub as_text : {shapes : List Shape} {first after : List ℕ} → Draws shapes first after → Puts (concat shapes) first after
as_text draws = record { is = draws.is }
