-- A run is as if its blocks had been run one after another, each whole and alone.
use Rattle.std.specs.Prelude.{◌≡◌, ◌<◌, ℕ, true, List, length, take}
use Rattle.qs_objects.specs.audit.Parts.{IsFront}
use Rattle.qs_objects.specs.declared.held.Event.{Event}
use Rattle.qs_program.specs.audit.Program.{ProgramShape, text_of}
use Rattle.qs_meaning.specs.audit.Configurations.{configuration_after}
use Rattle.qs_meaning.specs.audit.Serial.{IsLegal}
use Rattle.qs_meaning.specs.audit.Solo.{solo}
use Rattle.qs_played.specs.audit.Isolation.{ended_of, ticket_at, trace_of}
use Rattle.qs_played.specs.audit.Played.{Played}
use Rattle.qs_promises.specs.audit.Finished.{IsWholeRun}
use Rattle.qs_promises.specs.audit.Undisturbed.{IsUndisturbed}

-- the requests and replies that the text of the block at the i-th place of the order has alone: from its client's
-- variables as they are after that client's earlier blocks, and from the states that the blocks before it in the order
-- left
abbrev pub alone_at : ProgramShape → Played → ℕ → List Event
alone_at p r i =
    let t = ticket_at r i in
    let before = configuration_after p (take i r.order) in
    (solo (text_of p t).body (before.locals t.client) before.states).trace

-- the block at the i-th place has a beginning of these, and all of them if it has ended
pub record HasItsOwn (p : ProgramShape) (r : Played) (i : ℕ) : Type 0 where
  pub beginning : IsFront (trace_of r i) (alone_at p r i)
  pub ended : ended_of r i ≡ true → trace_of r i ≡ alone_at p r i

-- The order is legal: the tickets of each client come as its blocks do. Each block has the requests and replies that
-- its text has alone. Each object's state is what the requests that it has run leave. And a finished run has each block
-- once, and leaves the states that the blocks leave one after another.
pub record IsAsIfSerial (p : ProgramShape) (r : Played) : Type 0 where
  pub legal : IsLegal p r.order
  pub blocks : (i : ℕ) → i < length r.order → HasItsOwn p r i
  pub states : (h : ℕ) → h < length p.objects → IsUndisturbed p r h
  pub whole : r.finished ≡ true → IsWholeRun p r
