-- Beside what the headline reaches (`audit/Shapes.antt`): what else contracts and proofs use.
use Rattle.std.specs.Prelude.{◌≡◌, ℕ, List, ◌++◌}
use Rattle.std.specs.List.{concat}
use Rattle.qs_svg.specs.audit.Shapes.{Shape}

-- shapes are put at the end, one after another
pub record Draws (shapes : List Shape) (old new : List ℕ) : Type 0 where
  pub is : new ≡ old ++ concat shapes
