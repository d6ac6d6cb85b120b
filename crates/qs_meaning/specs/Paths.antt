-- How many requests the paths of an interaction tree make.
use Rattle.std.specs.Prelude.{ℕ, ◌≤◌, ◌-◌, ◌==◌, ℤ, if◌then◌else◌}
use Rattle.qs_objects.specs.declared.Request.{Request}
use Rattle.qs_program.specs.audit.Statements.{Statements}
use Rattle.qs_program.specs.audit.Values.{Locals}
use Rattle.qs_meaning.specs.audit.Interaction.{Interaction, Done, Call, Query, tree_of}
use Rattle.qs_program.specs.audit.Loads.{load_of}

-- 1 for a request on the object, 0 for another
abbrev pub counts : ℕ → Request → ℕ
counts h r = if r.object == h then 1 else 0

-- each path, whatever the replies, makes at most n requests on an object
abbrev pub Within : ℕ → Interaction → ℕ → Type 0
Within h (Done l) n = Unit {0}
Within h (Call r next) n = (counts h r ≤ n) × Within h next (n - counts h r)
Within h (Query r next) n = (counts h r ≤ n) × ((v : ℤ) → Within h (next v) (n - counts h r))

-- a block makes at most as many requests on an object as its load says
abbrev pub RequestsWithinLoad : Type 0
RequestsWithinLoad = (body : Statements) (l : Locals) (h : ℕ) → Within h (tree_of body l) (load_of body h)
