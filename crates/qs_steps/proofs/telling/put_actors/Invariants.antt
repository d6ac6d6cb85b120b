use Rattle.std.proofs.Common.{◌≡◌, ◌+◌, take}
use Rattle.qs_steps.specs.Telling.{AreTold}
use Rattle.qs_steps.proofs.telling.put_actors.Given as goal

abbrev pub invariant-loop-actor : goal.invariant-loop-actor
invariant-loop-actor g l = record {
  number : l.number ≡ l.asked.before + l.actor-index;
  told : AreTold g.M.Machine.view l.asked.form l.program l.asked.is_pick (1 + l.asked.before) (take l.actor-index l.actors) l.initial.out.items l.initial.machine l.out.items l.machine;
}
