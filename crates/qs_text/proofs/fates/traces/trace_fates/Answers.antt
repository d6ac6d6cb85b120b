use Rattle.std.proofs.Common.{[], ◌++◌, ◌+◌, drop, length, slice_index_or, take, ap, ◌∙◌}
use Rattle.std.proofs.lemmas.List.{length-replicate}
use Rattle.qs_played.specs.audit.Played.{ticket}
use Rattle.qs_text.specs.audit.fates.Fates.{fates_along, trace_fates}
use Rattle.qs_text.specs.fates.Picked.{left_on}
use Rattle.qs_text.proofs.fates.FatesAlong.{fates_step, left_start, left_step, next_fate}
use Rattle.qs_text.proofs.fates.traces.trace_fates.Goals as goal

pub loop-event-init : goal.loop-event-init
loop-event-init c = record {
  fates_so_far = ap (λ fates_so_far. fates_so_far ++ fates_along c.args.program.now c.args.played.now c.args.place [] c.trace-trace.result.now) c.in_ok-fates_so_far.ensures.items
      ∙ ap (λ trace. fates_along c.args.program.now c.args.played.now c.args.place [] trace) c.trace-trace.ensures.value;
  left = λ h.
      ap (λ order. left_on c.args.played.now c.args.fates.now (slice_index_or order c.args.place (ticket 0 0)) c.in_ok-places.places.items h) c.order.ensures.value
      ∙ left_start c.args.program.now c.args.played.now c.args.place c.args.fates.now c.in_ok-places.places.items c.len.result c.requires.fates
      c.len.ensures.count (c.in_ok-places.ensures.items_if_clones_equal (λ y e. e)) h;
  many = ap length (c.in_ok-places.ensures.items_if_clones_equal (λ y e. e)) ∙ (length-replicate c.len.result 0 ∙ c.len.ensures.count);
}

pub loop-event-preserved : goal.loop-event-preserved
loop-event-preserved c =
    let p = c.args.program.now in
    let run = c.args.played.now in
    let i = c.args.place in
    let trace = c.trace-trace.result.now in
    let k = c.loop-event.event-index in
    let own = slice_index_or c.order.result.now i (ticket 0 0) in
    let fate = next_fate p run i (take k trace) c.event-item.result (left_on run c.args.fates.now own c.loop-event.places.items) c.take_next.result
    c.loop-event.invariant.left c.take_next.ensures.fate in
    record {
      fates_so_far = ap (λ fates_so_far. fates_so_far ++ fates_along p run i (take (k + 1) trace) (drop (k + 1) trace)) c.in_ok-push.ensures.items
          ∙ fates_step p run i trace k c.event-item.result c.loop-event.fates_so_far.items c.take_next.result (trace_fates p run i) c.loop-event-test.true
          c.event-item.is fate c.loop-event.invariant.fates_so_far;
      left = left_step p run i trace k c.event-item.result (left_on run c.args.fates.now own c.loop-event.places.items)
          (left_on run c.args.fates.now own c.take_next.new.places.items) c.loop-event-test.true c.event-item.is c.loop-event.invariant.left
          c.take_next.ensures.rest;
      many = c.take_next.ensures.many ∙ c.loop-event.invariant.many;
    }
