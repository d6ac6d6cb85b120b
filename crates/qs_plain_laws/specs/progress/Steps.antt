-- How many steps a run by the plain rules can take.
use Rattle.std.specs.Prelude.{◌<◌, ◌≤◌, ℕ, ◌+◌, ◌*◌, List, [], ◌∷◌, length, Option, Some, None, sum_by}
use Rattle.qs_program.specs.audit.Limits.{most_objects, most_requests}
use Rattle.qs_program.specs.Limits.{most_tickets}
use Rattle.qs_program.specs.audit.Program.{BlockShape, ClientShape, ProgramShape, block_load}
use Rattle.qs_program.specs.Sound.{IsSound}
use Rattle.qs_played.specs.audit.Schedule.{most_rounds, or_stay}
use Rattle.qs_played.specs.declared.schedule.actor.Actor.{Actor}
use Rattle.qs_plain_laws.specs.audit.Plain.{Plain, begin, step}

module _ {S : Type 0} where
  -- 1 for a step, and 0 where an actor has none
  abbrev pub made : Option S → ℕ
  made None = 0
  made (Some t) = 1

  -- by a machine's step function: how many actors of a list have a step when their turn comes
  abbrev pub steps_made_by : (S → Actor → Option S) → List Actor → S → ℕ
  steps_made_by step [] s = 0
  steps_made_by step (a ∷ rest) s = made (step s a) + steps_made_by step rest (or_stay s (step s a))

abbrev pub steps_made : ProgramShape → List Actor → Plain → ℕ
steps_made p actors s = steps_made_by (step p) actors s

-- a block is entered and ended, each of its requests is logged and served, and each object of its list takes an end
-- mark away
abbrev pub steps_of_block : BlockShape → ℕ
steps_of_block b = 2 + 2 * block_load b + length b.reserved

abbrev pub steps_of_client : ClientShape → ℕ
steps_of_client c = sum_by steps_of_block c.blocks

abbrev pub most_steps_of : ProgramShape → ℕ
most_steps_of p = sum_by steps_of_client p.clients

-- For every checked program and every list of actors: they make no more steps than all blocks have.
abbrev pub StepsAreBounded : Type 0
StepsAreBounded =
    (p : ProgramShape) → IsSound p → (actors : List Actor) → steps_made p actors (begin p) ≤ most_steps_of p

-- By the limits of the language these are 205120 at most, fewer than the rounds that may be played.
pub record AreFew (p : ProgramShape) : Type 0 where
  pub few : most_steps_of p ≤ 2 * most_requests + (2 + most_objects) * most_tickets
  pub rounds : most_steps_of p < most_rounds

abbrev pub BoundsAreSmall : Type 0
BoundsAreSmall = (p : ProgramShape) → IsSound p → AreFew p
