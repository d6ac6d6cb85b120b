use Rattle.std.proofs.Common.{◌≡◌, ◌+◌, ◌++◌, false, length, map}
use Rattle.qs_steps.proofs.Names.{AreTold, NoneStep, range_with_len}
use Rattle.qs_played.specs.declared.schedule.actor.Actor.TheVariants as actor
use Rattle.qs_steps.proofs.telling.put_round.Given as goal

abbrev pub invariant-loop-client : goal.invariant-loop-client
invariant-loop-client g l = record {
  told : AreTold g.M.Machine.view l.form l.program false (l.asked + 1) (map actor.Client (range_with_len 0 l.client)) l.fn.out.items l.fn.machine l.out.items l.machine;
  still : l.stepped ≡ false → NoneStep g.M.Machine.view (map actor.Client (range_with_len 0 l.client)) l.fn.machine l.machine;
}

abbrev pub invariant-loop-handler : goal.invariant-loop-handler
invariant-loop-handler g l = record {
  told : AreTold g.M.Machine.view l.form l.program false (l.asked + 1) (map actor.Client (range_with_len 0 (length l.program.clients)) ++ map actor.Handler (range_with_len 0 l.handler)) l.fn.out.items l.fn.machine l.out.items l.machine;
  still : l.stepped ≡ false → NoneStep g.M.Machine.view (map actor.Client (range_with_len 0 (length l.program.clients)) ++ map actor.Handler (range_with_len 0 l.handler)) l.fn.machine l.machine;
}
