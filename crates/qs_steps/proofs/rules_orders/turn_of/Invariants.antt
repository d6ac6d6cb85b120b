use Rattle.std.proofs.Common.{◌≡◌, ◌∷◌, map, take}
use Rattle.qs_played.specs.declared.schedule.actor.Actor.TheVariants as actors
use Rattle.qs_steps.proofs.rules_orders.turn_of.Given as goal

abbrev pub invariant-loop-handler : goal.invariant-loop-handler
invariant-loop-handler l = l.turn.items ≡ actors.Client l.client ∷ map actors.Handler (take l.handler-index l.handlers)
