-- Beside what the headline reaches (`audit/Loads.antt`): what else contracts and proofs use.
use Rattle.std.specs.Prelude.{ℕ, ◌≡◌, ◌<◌, ◌+◌, min, List, slice_index_or}
use Rattle.qs_program.specs.audit.Limits.{most_objects, most_requests}
use Rattle.qs_program.specs.audit.Statements.{Statements}
use Rattle.qs_program.specs.audit.Loads.{load_of}

-- the requests on each of 8 objects, counted to one past their limit
abbrev pub AreLoads : Statements → List ℕ → Type 0
AreLoads body loads = (h : ℕ) → h < most_objects → slice_index_or loads h 0 ≡ min (load_of body h) (most_requests + 1)
