-- Only the empty list is a front of the empty list; and where one list is a front of another, their first elements are
-- equal and the rest is a front of the rest. The proofs on the two ends of a lane compare what was got with what was
-- given in this way, element by element. Both follow from the definition of `IsFront`.
use Rattle.std.proofs.Common.{◌≡◌, List, [], ◌∷◌, refl, rules, arith}
use Rattle.qs_objects.specs.audit.Parts.{IsFront}

pub front_of_none : {X : Type 0} (xs : List X) → IsFront xs [] → xs ≡ []
front_of_none [] front = refl
front_of_none (x ∷ xs) front = absurd (cc (front.1))

pub front_rest : {X : Type 0} (x y : X) (xs ys : List X) → IsFront (x ∷ xs) (y ∷ ys) → (x ≡ y) × IsFront xs ys
front_rest x y xs ys front = (cc (front.1), (front.0, cc (front.1)))
