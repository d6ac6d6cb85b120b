use Rattle.std.proofs.Common.{List, length, sym, ap, ◌∙◌}
use Rattle.qs_objects.specs.declared.held.Event.{Event}
use Rattle.qs_report.proofs.MarkedLines.{length-trace_fates}
use Rattle.qs_report.proofs.refusals.put_marked_trace.Goals as goal

pub put_marked_events-requires : goal.put_marked_events-requires
put_marked_events-requires c = record {
  fates = ap length c.deref.ensures.value
      ∙ (ap length c.in_ok-marks.ensures.fates
      ∙ (length-trace_fates c.args.program.now c.args.played.now c.args.place ∙ sym (ap (λ (es : List Event). length es) c.trace.ensures.value)));
}
