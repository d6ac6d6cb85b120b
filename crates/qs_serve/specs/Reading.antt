-- What became of a reader's calls.
use Rattle.std.specs.Prelude.{ℕ, List, Option, Bool}

-- the bytes that are left, where they are known; how many reads were made; whether one has failed
pub record Reading : Type 0 where
  pub remaining : Option (List ℕ)
  pub reads : ℕ
  pub has_failed : Bool
