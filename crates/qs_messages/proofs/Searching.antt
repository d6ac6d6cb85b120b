-- What a search over places finds is what the definition finds.
use Rattle.std.proofs.Common.{◌≡◌, refl, Option, Some, None, option_map}

pub as_is : {A : Type 0} (r : Option A) → r ≡ option_map (λ x. x) r
as_is None = refl
as_is (Some x) = refl
