use Rattle.qs_dot.proofs.Common.{arith, anchor_lines, rules}
use Rattle.qs_dot.proofs.node_lines.TextLines.{ended, passed}
use Rattle.qs_dot.proofs.node_lines.anchor_lines.anchor_lines.Goals as goal

pub loop-end-preserved-then-text-end-ne10 : goal.loop-end-preserved-then-text-end-ne10
loop-end-preserved-then-text-end-ne10 c = search (rules, passed)

pub loop-end-preserved : goal.loop-end-preserved
loop-end-preserved c = record {
  lines = ended c.args.text.now c.loop-end.number c.loop-end.start c.loop-end.end c.loop-end.lines.items (anchor_lines c.args.text.now)
      c.loop-end.invariant.begun c.loop-end-test.true c.loop-end.invariant.lines c.put_line.new.lines.items c.if-text-end-ne10.false c.in_ok-put_line.ensures.added;
  begun = omega arith;
  few = omega (arith, c.loop-end.invariant.few);
}
