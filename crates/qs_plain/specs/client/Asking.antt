-- What a client asks next, after its quiet moves.
use Rattle.std.specs.Prelude.{◌≡◌, ◌<◌, ℕ, true, false, ◌==◌, if◌then◌else◌, List, [], slice_set, Option, Some, None}
use Rattle.std.specs.List.{AllByRecursion}
use Rattle.qs_program.specs.audit.Values.{Locals, request_of}
use Rattle.qs_meaning.specs.audit.Interaction.{Interaction, Done, Call, Query}
use Rattle.qs_program.specs.Sound.{IsSoundBody, IsSoundCall}
use Rattle.qs_program.specs.declared.program.Declared.{Declared}
use Rattle.qs_program.specs.audit.Limits.{most_variables}
use Rattle.qs_plain.specs.declared.client.frames.Ask.{Ask}
use Rattle.qs_plain.specs.client.Frames.{Frame, rest, turning, next_of}
use Rattle.qs_plain.specs.declared.client.frames.Ask.TheVariants as ask

-- the tree of what was left asks this first, and then goes on with what is left now
abbrev pub Asks : Ask → Interaction → List Frame → Locals → Type 0
Asks (ask.Command c) tree fs l = tree ≡ Call (request_of l c.now) (next_of fs l)
Asks (ask.Query x c) tree fs l = tree ≡ Query (request_of l c.now) (λ v. next_of fs (slice_set l x v))
Asks ask.End tree fs l = (tree ≡ Done l) × (fs ≡ [])

-- how many requests on an object it makes
abbrev pub asked_of : Ask → ℕ → ℕ
asked_of (ask.Command c) h = if c.now.object == h then 1 else 0
asked_of (ask.Query x c) h = if c.now.object == h then 1 else 0
asked_of ask.End h = 0

-- a quiet move keeps what comes next; any other asks
abbrev pub Moves : Option Ask → List Frame → Locals → List Frame → Locals → Type 0
Moves None fs l gs m = (next_of fs l ≡ next_of gs m)
Moves (Some a) fs l gs m = Asks a (next_of fs l) gs m

-- of a quiet move none
abbrev pub asked_by : Option Ask → ℕ → ℕ
asked_by None h = 0
asked_by (Some a) h = asked_of a h

-- what is left is sound, and so is what is asked
module _ (objects : List Declared) (reserved : List ℕ) where
  abbrev pub IsSoundFrame : Frame → Type 0
  IsSoundFrame (rest s) = IsSoundBody objects reserved s
  IsSoundFrame (turning n body) = IsSoundBody objects reserved body

  abbrev pub AreSound : List Frame → Type 0
  AreSound fs = AllByRecursion IsSoundFrame fs

  abbrev pub IsSoundAsk : Ask → Type 0
  IsSoundAsk (ask.Command c) = IsSoundCall objects reserved false c.now
  IsSoundAsk (ask.Query x c) = (x < most_variables) × IsSoundCall objects reserved true c.now
  IsSoundAsk ask.End = Unit {0}

  abbrev pub IsSoundMove : Option Ask → Type 0
  IsSoundMove None = Unit {0}
  IsSoundMove (Some a) = IsSoundAsk a
