use Rattle.std.proofs.Common.{drop}
use Rattle.qs_plain.proofs.Blocks.{ArePlayed}
use Rattle.qs_steps.proofs.Names.{HasGoneOn, rules_view}
use Rattle.qs_steps.proofs.rules_orders.tell_order.Given as goal

abbrev pub invariant-loop-client : goal.invariant-loop-client
invariant-loop-client l = record {
  played : ArePlayed l.program l.clients (drop l.client-index l.clients) l.rules;
  told : HasGoneOn rules_view l.program l.initial.lines l.initial.rules l.lines l.rules;
}
