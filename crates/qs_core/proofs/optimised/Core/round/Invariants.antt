use Rattle.std.proofs.Common.{◌≡◌, true, false, ◌++◌, length, map}
use Rattle.qs_played.proofs.Names.{range_with_len, HasStep}
use Rattle.qs_played.specs.declared.schedule.actor.Actor.TheVariants as actor
use Rattle.qs_core_laws.specs.audit.Core.{core_step}
use Rattle.qs_core.specs.state.CoreState.{codes_of, core_of}
use Rattle.qs_core.specs.CoreOrders.{CoreGoes}
use Rattle.qs_core.proofs.optimised.Core.round.Given as goal

abbrev pub invariant-loop-client : goal.invariant-loop-client
invariant-loop-client l = record {
  goes : CoreGoes l.fn.self (map actor.Client (range_with_len 0 l.client)) l.self;
  moved : l.stepped ≡ true → HasStep (core_step (codes_of l.fn.self) l.fn.self.size) (map actor.Client (range_with_len 0 l.client)) (core_of l.fn.self);
  still : l.stepped ≡ false → l.self ≡ l.fn.self;
}

abbrev pub invariant-loop-handler : goal.invariant-loop-handler
invariant-loop-handler l = record {
  goes : CoreGoes l.fn.self (map actor.Client (range_with_len 0 (length l.fn.self.program.clients)) ++ map actor.Handler (range_with_len 0 l.handler)) l.self;
  moved : l.stepped ≡ true → HasStep (core_step (codes_of l.fn.self) l.fn.self.size) (map actor.Client (range_with_len 0 (length l.fn.self.program.clients)) ++ map actor.Handler (range_with_len 0 l.handler)) (core_of l.fn.self);
  still : l.stepped ≡ false → l.self ≡ l.fn.self;
}
