-- What the code that tells steps promises, call by call.
use Rattle.std.specs.Prelude.{◌≡◌, ℕ, Bool, true, false, if◌then◌else◌, List, [], ◌++◌, codes, Option, Some, None, Result, Ok, Err}
use Rattle.std.specs.Bool.{OnTrue}
use Rattle.qs_objects.specs.audit.Act.{State}
use Rattle.qs_objects.specs.declared.Request.{Request}
use Rattle.qs_program.specs.audit.Program.{ProgramShape}
use Rattle.qs_syncset.specs.audit.Codes.{ClientCode, AreCodes}
use Rattle.qs_syncset.specs.declared.mode.Mode.{Mode}
use Rattle.qs_played.specs.audit.Played.{Played}
use Rattle.qs_played.specs.audit.Schedule.{plays_by, schedule}
use Rattle.qs_played.specs.declared.schedule.actor.Actor.{Actor}
use Rattle.qs_plain_laws.specs.audit.Plain.{Plain, step}
use Rattle.qs_plain.specs.Rules.{RulesState, plain_of}
use Rattle.qs_plain.specs.declared.awaited.Awaited.{Awaited}
use Rattle.qs_plain.specs.declared.awaited.Awaited.TheVariants.{Nothing, Reply, Done}
use Rattle.qs_plain.specs.declared.handler.effect.Effect.{Effect}
use Rattle.qs_core_laws.specs.audit.Core.{Core, core_step}
use Rattle.qs_core_laws.specs.audit.CoreSchedule.{core_played}
use Rattle.qs_core_laws.specs.CoreSchedule.{core_scheduled}
use Rattle.qs_core.specs.state.CoreState.{CoreState, codes_of, core_of}
use Rattle.qs_core.specs.declared.core_effect.CoreEffect.{CoreEffect}
use Rattle.qs_steps.specs.declared.wanted.Form.{Form}
use Rattle.qs_steps.specs.declared.wanted.Wanted.{Wanted}
use Rattle.qs_steps.specs.declared.wanted.Told.{Told}
use Rattle.qs_steps.specs.Queues.{is_done, waits_nothing}
use Rattle.qs_steps.specs.Told.{idle_told, lines_by, step_line, steppers_by, steps_by}
use Rattle.qs_steps.specs.PlainSteps.{plain_told, told_or_none}
use Rattle.qs_steps.specs.PlainQueues.{waits_reply}
use Rattle.qs_steps.specs.PlainQueues as plain
use Rattle.qs_steps.specs.CoreQueues.{core_queues}
use Rattle.qs_steps.specs.CoreQueues as core
use Rattle.qs_steps.specs.CoreSteps.{core_steps, core_told, core_told_or_none}

-- the run of what was told with it
abbrev pub played_in : {E : Type 0} → Result Told E → Result Played E
played_in (Ok told) = Ok told.played
played_in (Err fault) = Err fault

-- what a client waits for under the plain rules
abbrev pub awaited_in : Form → Awaited → List ℕ
awaited_in f Nothing = waits_nothing f
awaited_in f Reply = waits_reply f
awaited_in f Done = is_done f

-- the line of an actor that has stepped, or that has not
abbrev pub idle_line : Form → ProgramShape → (is_pick : Bool) → ℕ → Actor → List ℕ
idle_line f p true n a = step_line f p n a (idle_told f)
idle_line f p false n a = []

abbrev pub plain_line : Form → ProgramShape → (is_pick : Bool) → ℕ → Actor → Option State → Option Effect → List ℕ
plain_line f p is_pick n a o None = idle_line f p is_pick n a
plain_line f p is_pick n a o (Some effect) = step_line f p n a (told_or_none f p o (Some effect))

abbrev pub core_line : Form → ProgramShape → (is_pick : Bool) → ℕ → Actor → (stepped : Bool) → Option State
    → Option CoreEffect → List Request → List ℕ
core_line f p is_pick n a false o effect rs = idle_line f p is_pick n a
core_line f p is_pick n a true o effect rs = step_line f p n a (core_told_or_none f p o effect rs)

-- a machine as it is told: what stays the same of it in a run, its state, and by both its steps, and in each form what
-- is told of them, and what lies where
pub record View (M : Type 0) : Type 1 where
  pub Kept : Type 0
  pub State : Type 0
  pub kept : M → Kept
  pub state : M → State
  pub program : Kept → ProgramShape
  pub step : Kept → State → Actor → Option State
  pub told : Form → Kept → State → Actor → List ℕ
  pub queues : Form → Kept → State → List ℕ

module _ {M : Type 0} (v : View M) where
  abbrev pub own_program : M → ProgramShape
  own_program s = v.program (v.kept s)

  -- an actor was asked to step, and where it has not stepped, it could not, and the machine is the same
  pub record IsAsked (a : Actor) (stepped : Bool) (s new : M) : Type 0 where
    pub kept : v.kept new ≡ v.kept s
    pub steps : OnTrue stepped (v.step (v.kept s) (v.state s) a ≡ Some (v.state new))
    pub none : stepped ≡ false → v.step (v.kept s) (v.state s) a ≡ None
    pub same : stepped ≡ false → new ≡ s

  abbrev pub asked_line : Form → ProgramShape → (is_pick : Bool) → ℕ → Actor → (stepped : Bool) → M → List ℕ
  asked_line f p is_pick n a true s = step_line f p n a (v.told f (v.kept s) (v.state s) a)
  asked_line f p is_pick n a false s = idle_line f p is_pick n a

  -- these actors lead from one to the other
  pub record LeadTo (actors : List Actor) (s new : M) : Type 0 where
    pub kept : v.kept new ≡ v.kept s
    pub state : v.state new ≡ plays_by (v.step (v.kept s)) actors (v.state s)

  -- and the text has their lines more, of which the first is that of the n-th that was asked
  pub record AreTold (f : Form) (p : ProgramShape) (is_pick : Bool) (n : ℕ) (actors : List Actor) (before : List ℕ)
      (s : M) (after : List ℕ) (new : M) : Type 0 where
    pub lead : LeadTo actors s new
    pub text : after ≡ before ++ lines_by (v.step (v.kept s)) f p (v.told f (v.kept s)) is_pick n actors (v.state s)

  -- nobody of them could step, and the machine is the same
  pub record NoneStep (actors : List Actor) (s new : M) : Type 0 where
    pub none : steppers_by (v.step (v.kept s)) actors (v.state s) ≡ []
    pub same : new ≡ s

  -- the lines of a whole schedule
  abbrev pub steps_from : Form → ProgramShape → List Actor → (rounds : ℕ) → M → List ℕ
  steps_from f p picks rounds s = steps_by (v.step (v.kept s)) f p (v.told f (v.kept s)) picks rounds (v.state s)

  pub record IsScheduleTold (f : Form) (p : ProgramShape) (picks : List Actor) (rounds : ℕ) (before : List ℕ) (s : M)
      (after : List ℕ) (new : M) : Type 0 where
    pub lead : LeadTo (schedule p picks rounds) s new
    pub text : after ≡ before ++ steps_from f p picks rounds s

-- the plain rules of a program
abbrev pub rules_view : View RulesState
rules_view = record {
  Kept = ProgramShape;
  State = Plain;
  kept = λ r. r.program;
  state = plain_of;
  program = λ p. p;
  step = step;
  told = plain_told;
  queues = plain.queues_in;
}

-- the optimised machine of a program
pub record CoreKept : Type 0 where
  pub program : ProgramShape
  pub code : ℕ → ClientCode
  pub size : ℕ

abbrev pub core_view : View CoreState
core_view = record {
  Kept = CoreKept;
  State = Core;
  kept = λ s. record { program = s.program; code = codes_of s; size = s.size };
  state = core_of;
  program = λ k. k.program;
  step = λ k. core_step k.code k.size;
  told = λ f k. core_told f k.program k.code k.size;
  queues = λ f k. core.queues_in f k.program k.code k.size;
}

-- by the same codes of the program's clients: the texts that are asked for are the lines of the steps and what lies
-- where, and this is shown
abbrev pub IsToldIn : ProgramShape → Mode → (size : ℕ) → List Actor → (rounds : ℕ) → Wanted → (steps queues : List ℕ)
    → Played → Type 0
IsToldIn p mode size picks rounds wanted steps queues played =
    (code : ℕ → ClientCode) × AreCodes p mode code
    × (steps ≡ (if wanted.steps then core_steps wanted.form p code size picks rounds else []))
    × (queues ≡ (if wanted.queues then core_queues wanted.form p code size picks rounds else []))
    × (played ≡ core_played p (core_scheduled p code size picks rounds))
