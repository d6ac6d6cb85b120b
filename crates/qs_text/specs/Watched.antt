-- What became of a writer's calls.
use Rattle.std.specs.Prelude.{Bool}

-- whether a write or a flush has failed, and whether the last call was a flush that was done
pub record Watched : Type 0 where
  pub has_failed : Bool
  pub is_flushed : Bool
