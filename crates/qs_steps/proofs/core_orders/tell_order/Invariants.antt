use Rattle.std.proofs.Common.{drop}
use Rattle.qs_steps.proofs.Names.{ArePlayed, HasGoneOn, core_view}
use Rattle.qs_steps.proofs.core_orders.tell_order.Given as goal

abbrev pub invariant-loop-client : goal.invariant-loop-client
invariant-loop-client l = record {
  played : ArePlayed l.program l.fn.mode l.fn.size l.clients (drop l.client-index l.clients) l.core;
  told : HasGoneOn core_view l.program l.initial.lines l.initial.core l.lines l.core;
}
