-- The lines of steps, in each form, name the actors that stepped: the text is a list of lines, each of which has the
-- number and the actor that was asked to step then, and those that tell a step are of the actors that stepped, in their
-- order.
use Rattle.std.specs.Prelude.{◌≡◌, ◌<◌, ◌≤◌, ℕ, ◌+◌, Bool, false, if◌then◌else◌, List, [], ◌∷◌, ◌++◌, flat_map, length, slice_index_or}
use Rattle.std.specs.List.{AllByRecursion}
use Rattle.qs_program.specs.audit.Program.{ProgramShape}
use Rattle.qs_syncset.specs.audit.Codes.{ClientCode}
use Rattle.qs_played.specs.audit.Schedule.{schedule}
use Rattle.qs_played.specs.declared.schedule.actor.Actor.{Actor}
use Rattle.qs_steps.specs.Told.{idle_told, step_line}
use Rattle.qs_steps.specs.declared.wanted.Form.{Form}
use Rattle.qs_steps.specs.PlainSteps.{plain_steppers, plain_steps}
use Rattle.qs_steps.specs.CoreSteps.{core_steppers, core_steps}

pub record Line : Type 0 where
  pub number : ℕ
  pub actor : Actor
  pub stepped : Bool
  pub what : List ℕ

abbrev pub line_text : Form → ProgramShape → Line → List ℕ
line_text f p l = step_line f p l.number l.actor l.what

-- the actors of the lines that tell a step
abbrev pub named : List Line → List Actor
named [] = []
named (l ∷ ls) = (if l.stepped then l.actor ∷ [] else []) ++ named ls

-- a line that tells no step says so
abbrev pub SaysNothing : Form → Line → Type 0
SaysNothing f l = l.stepped ≡ false → l.what ≡ idle_told f

-- its actor is the one that was asked to step as this number, from 1
pub record IsAsked (actors : List Actor) (l : Line) : Type 0 where
  pub place : ℕ
  pub number : l.number ≡ place + 1
  pub inside : place < length actors
  pub actor : (d : Actor) → slice_index_or actors place d ≡ l.actor

-- the numbers rise from one line to the next
abbrev pub IsRising : ℕ → List Line → Type 0
IsRising n [] = Unit {0}
IsRising n (l ∷ ls) = (n ≤ l.number) × IsRising (l.number + 1) ls

-- the text is lines of these actors as they were asked, and those that stepped are named
pub record AreLinesOf (f : Form) (p : ProgramShape) (actors those : List Actor) (bytes : List ℕ) : Type 0 where
  pub lines : List Line
  pub text : bytes ≡ flat_map (line_text f p) lines
  pub steppers : named lines ≡ those
  pub idle : AllByRecursion (SaysNothing f) lines
  pub asked : AllByRecursion (IsAsked actors) lines
  pub rising : IsRising 1 lines

-- of every schedule, under the plain rules and on the optimised machine
pub record StepsAreNamed : Type 0 where
  pub by_rules : (f : Form) (p : ProgramShape) (picks : List Actor) (rounds : ℕ)
      → AreLinesOf f p (schedule p picks rounds) (plain_steppers p picks rounds) (plain_steps f p picks rounds)
  pub by_machine : (f : Form) (p : ProgramShape) (code : ℕ → ClientCode) (size : ℕ) (picks : List Actor)
      (rounds : ℕ)
      → AreLinesOf f p (schedule p picks rounds) (core_steppers p code size picks rounds)
      (core_steps f p code size picks rounds)
