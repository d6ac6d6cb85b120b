-- What a block does follows from its text, its client's variables as it began, and the states in which the earlier
-- blocks left its objects.
use Rattle.std.specs.Prelude.{◌≡◌, ◌<◌, ℕ, suc, true, List, length, take}
use Rattle.qs_objects.specs.audit.Parts.{IsFront}
use Rattle.qs_objects.specs.declared.held.Event.{Event}
use Rattle.qs_program.specs.audit.Program.{ProgramShape, text_of}
use Rattle.qs_program.specs.Sound.{IsSound}
use Rattle.qs_meaning.specs.Alike.{SameTrace}
use Rattle.qs_meaning.specs.Serial.{serial}
use Rattle.qs_meaning.specs.audit.Solo.{States, solo}
use Rattle.qs_played.specs.audit.Isolation.{ended_of, ticket_at, trace_of}
use Rattle.qs_played.specs.Isolation.{entry_of}
use Rattle.qs_played.specs.audit.Played.{Played}
use Rattle.qs_played.specs.twin.Twins.{Agreement, HasEntryOn, shorter, start_of}
use Rattle.qs_promises.specs.audit.Runs.{IsRun, Way}

-- the states in which the blocks before the i-th place of the order leave the objects, run one after another
abbrev pub left_before : ProgramShape → Played → ℕ → States
left_before p r i = (serial p (take i r.order)).states

-- the requests and replies of the block at the i-th place, run alone: by its text, from its client's variables as it
-- began, and from these states
abbrev pub alone : ProgramShape → Played → ℕ → List Event
alone p r i = (solo (text_of p (ticket_at r i)).body (entry_of r i) (left_before p r i)).trace

-- Its trace so far is a beginning of these, and all of them if it is done; and each object that has run a request of it
-- was in the state that the earlier blocks left when it ran the first one.
pub record IsAsIfAlone (p : ProgramShape) (r : Played) (i : ℕ) : Type 0 where
  pub beginning : IsFront (trace_of r i) (alone p r i)
  pub done : ended_of r i ≡ true → trace_of r i ≡ alone p r i
  pub found : (h : ℕ) → HasEntryOn r i h → start_of p r i h ≡ left_before p r i h

-- for every checked program, in whichever way it is run
abbrev pub BlocksAreAsIfAlone : Type 0
BlocksAreAsIfAlone =
    (p : ProgramShape) → IsSound p → (way : Way) (r : Played) → IsRun p way r
    → (i : ℕ) → i < length r.order → IsAsIfAlone p r i

-- Two runs of one program show the same of their i-th blocks: the variables at entry, and the traces, as far as each
-- has come; so the traces are equal if both blocks are done.
pub record ShowTheSame (r s : Played) (i : ℕ) : Type 0 where
  pub entry : entry_of r i ≡ entry_of s i
  pub beginnings : (whole : List Event) × IsFront (trace_of r i) whole × IsFront (trace_of s i) whole
  pub done : ended_of r i ≡ true → ended_of s i ≡ true → trace_of r i ≡ trace_of s i

-- Other clients, the schedule, the mode and the size of chunks only decide the order: two runs of a program, each in
-- whichever way, show the same of the i-th block if their orders are the same up to there.
abbrev pub OnlyTheOrderDecides : Type 0
OnlyTheOrderDecides =
    (p : ProgramShape) → IsSound p → (way other : Way) (r s : Played) → IsRun p way r → IsRun p other s
    → (i : ℕ) → i < length r.order → i < length s.order → take (suc i) r.order ≡ take (suc i) s.order
    → ShowTheSame r s i

-- And whatever the programs are: two blocks of equal text, whose variables by each name had equal values at entry, and
-- which found each object by one name that has run requests of both in equal states (`Agreement`), make the same
-- requests and get the same replies, as far as both have come.
abbrev pub BlocksThatAgreeDoTheSame : Type 0
BlocksThatAgreeDoTheSame =
    (p q : ProgramShape) → IsSound p → IsSound q → (way other : Way) (r s : Played) → IsRun p way r → IsRun q other s
    → (i j : ℕ) → i < length r.order → j < length s.order → Agreement p r i q s j
    → SameTrace p q (take (shorter p r i q s j) (trace_of r i)) (take (shorter p r i q s j) (trace_of s j))
