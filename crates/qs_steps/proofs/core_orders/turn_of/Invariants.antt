use Rattle.std.proofs.Common.{◌≡◌, ◌∷◌}
use Rattle.qs_played.specs.declared.schedule.actor.Actor.TheVariants as actors
use Rattle.qs_core_laws.specs.orders.CoreQuiet.{two_of_each}
use Rattle.qs_steps.proofs.core_orders.turn_of.Given as goal

abbrev pub invariant-loop-handler : goal.invariant-loop-handler
invariant-loop-handler l = l.turn.items ≡ actors.Client l.client ∷ two_of_each l.handler
