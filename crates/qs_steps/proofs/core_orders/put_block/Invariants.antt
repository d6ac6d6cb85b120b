use Rattle.qs_steps.proofs.Names.{HasGoneOn, StandsIn, core_view}
use Rattle.qs_steps.proofs.core_orders.put_block.Given as goal

abbrev pub invariant-loop-turn : goal.invariant-loop-turn
invariant-loop-turn l = record {
  stands : StandsIn l.fn.core l.client l._turn l.core;
  told : HasGoneOn core_view l.program l.fn.lines l.fn.core l.lines l.core;
}
