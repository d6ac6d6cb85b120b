use Rattle.std.proofs.Common.{◌++◌, ◌+◌, ap, ◌∙◌, arith}
use Rattle.qs_text.proofs.Joined.{one_item_more}
use Rattle.qs_report.proofs.Quick.{items_more}
use Rattle.qs_report.specs.audit.Report.{event_line}
use Rattle.qs_report.proofs.tickets.put_trace.Goals as goal

pub loop-done-preserved-then-done-trace : goal.loop-done-preserved-then-done-trace
loop-done-preserved-then-done-trace c =
    let line = event_line c.args.program.now in
    let at = c.loop-done.done + c.put_lines-done.result in
    let before = items_more line c.args.trace.now c.loop-done.done c.put_lines-done.result _ _ _ c.loop-done.invariant.items c.put_lines-done.ensures.items in
    record {
      items = one_item_more line c.args.trace.now at c.index-trace-done.result _ _ _ c.if-done-trace.true before
          (c.in_ok-put_event.ensures.ok ∙ ap (λ e. c.put_lines-done.new.out.items ++ line e) c.index-trace-done.is);
      within = omega (arith, c.if-done-trace.true);
    }

pub loop-done-preserved : goal.loop-done-preserved
loop-done-preserved c = record {
  items = items_more (event_line c.args.program.now) c.args.trace.now c.loop-done.done c.put_lines-done.result _ _ _ c.loop-done.invariant.items c.put_lines-done.ensures.items;
  within = omega (arith, c.put_lines-done.ensures.few, c.loop-done.invariant.within);
}
