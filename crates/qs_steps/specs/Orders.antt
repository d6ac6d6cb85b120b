-- What is told of whole blocks that run one after another: the actors that were asked so far, and the lines of their
-- steps. They are numbered from 1 as they are asked, and one that does not step has no line.
use Rattle.std.specs.Prelude.{◌≡◌, ℕ, ◌+◌, Bool, true, false, if◌then◌else◌, List, [], ◌++◌, length}
use Rattle.qs_objects.specs.declared.held.Ticket.{Ticket}
use Rattle.qs_program.specs.audit.Program.{ProgramShape}
use Rattle.qs_meaning.specs.audit.Configurations.{configuration_after}
use Rattle.qs_syncset.specs.audit.Codes.{ClientCode, AreCodes}
use Rattle.qs_syncset.specs.declared.mode.Mode.{Mode}
use Rattle.qs_played.specs.audit.Played.{Played}
use Rattle.qs_played.specs.audit.Schedule.{all_named}
use Rattle.qs_played.specs.declared.schedule.actor.Actor.{Actor}
use Rattle.qs_plain_laws.specs.audit.Plain.{begin, step}
use Rattle.qs_plain_laws.specs.audit.PlainSchedule.{played_of, plays}
use Rattle.qs_plain_laws.specs.orders.Quiet.{IsQuiet}
use Rattle.qs_core_laws.specs.audit.Core.{core_begin, core_step}
use Rattle.qs_core_laws.specs.audit.CoreSchedule.{core_played, core_plays}
use Rattle.qs_core_laws.specs.orders.CoreQuiet.{IsCoreQuiet}
use Rattle.qs_core.specs.state.CoreState.{CoreState, IsPlayedOn}
use Rattle.qs_steps.specs.declared.orders.Lines.{Lines}
use Rattle.qs_steps.specs.declared.wanted.Form.{Form}
use Rattle.qs_steps.specs.declared.wanted.Wanted.{Wanted}
use Rattle.qs_steps.specs.CoreQueues as core
use Rattle.qs_steps.specs.CoreSteps.{core_told}
use Rattle.qs_steps.specs.PlainQueues as plain
use Rattle.qs_steps.specs.PlainSteps.{plain_told}
use Rattle.qs_steps.specs.Telling.{AreTold, View}
use Rattle.qs_steps.specs.Told.{lines_by}

-- these actors of the program were asked, and their lines were put behind those before
pub record GoesOn {M : Type 0} (v : View M) (p : ProgramShape) (more : List Actor) (old : Lines) (s : M) (new : Lines)
    (t : M) : Type 0 where
  pub form : new.form ≡ old.form
  pub named : all_named p more ≡ true
  pub actors : new.actors.items ≡ old.actors.items ++ more
  pub told : AreTold v old.form p false (1 + length old.actors.items) more old.text.items s new.text.items t

-- some actors of the program
abbrev pub HasGoneOn : {M : Type 0} → View M → ProgramShape → Lines → M → Lines → M → Type 0
HasGoneOn v p old s new t = (more : List Actor) × GoesOn v p more old s new t

-- Under the plain rules these actors of the program play the blocks of an order, one after another: then nobody is in a
-- block, and these blocks have run.
pub record PlayOrder (p : ProgramShape) (order : List Ticket) (actors : List Actor) : Type 0 where
  pub named : all_named p actors ≡ true
  pub quiet : IsQuiet p order (configuration_after p order).begun (plays p actors (begin p))

-- and the lines of their steps
abbrev pub plain_order_steps : Form → ProgramShape → List Actor → List ℕ
plain_order_steps f p actors = lines_by (step p) f p (plain_told f p) false 1 actors (begin p)

-- what lies where then
abbrev pub plain_order_queues : Form → ProgramShape → List Actor → List ℕ
plain_order_queues f p actors = plain.queues_in f p (plays p actors (begin p))

-- such actors were asked: the texts that are asked for are these, and this is shown
pub record IsOrderTold (p : ProgramShape) (order : List Ticket) (wanted : Wanted) (steps queues : List ℕ)
    (played : Played) : Type 0 where
  pub actors : List Actor
  pub play : PlayOrder p order actors
  pub are : steps ≡ (if wanted.steps then plain_order_steps wanted.form p actors else [])
  pub lie : queues ≡ (if wanted.queues then plain_order_queues wanted.form p actors else [])
  pub shown : played ≡ played_of p (plays p actors (begin p))

-- some actors led to a state of the optimised machine
abbrev pub WasReached : ProgramShape → CoreState → Type 0
WasReached p s = (mode : Mode) × (size : ℕ) × (actors : List Actor) × IsPlayedOn p mode size actors s

-- The same in the optimised machine, by these codes of the program's clients and with chunks of this size.
module _ (p : ProgramShape) (code : ℕ → ClientCode) (size : ℕ) where
  pub record PlayOrderIn (order : List Ticket) (actors : List Actor) : Type 0 where
    pub named : all_named p actors ≡ true
    pub quiet : IsCoreQuiet order (configuration_after p order).begun (core_plays code size actors (core_begin p))

  abbrev pub core_order_steps : Form → List Actor → List ℕ
  core_order_steps f actors = lines_by (core_step code size) f p (core_told f p code size) false 1 actors (core_begin p)

  abbrev pub core_order_queues : Form → List Actor → List ℕ
  core_order_queues f actors = core.queues_in f p code size (core_plays code size actors (core_begin p))

pub record IsOrderToldIn (p : ProgramShape) (mode : Mode) (size : ℕ) (order : List Ticket) (wanted : Wanted)
    (steps queues : List ℕ) (played : Played) : Type 0 where
  pub code : ℕ → ClientCode
  pub codes : AreCodes p mode code
  pub actors : List Actor
  pub play : PlayOrderIn p code size order actors
  pub are : steps ≡ (if wanted.steps then core_order_steps p code size wanted.form actors else [])
  pub lie : queues ≡ (if wanted.queues then core_order_queues p code size wanted.form actors else [])
  pub shown : played ≡ core_played p (core_plays code size actors (core_begin p))
