use Rattle.std.proofs.Common.{◌≡◌, ◌++◌, ℕ, drop, length, take}
use Rattle.qs_text.specs.audit.fates.Fates.{fates_along, fates_on, requests_on, trace_fates}
use Rattle.qs_text.specs.fates.Picked.{left_on}
use Rattle.qs_text.proofs.fates.traces.trace_fates.Given as goal

abbrev pub invariant-loop-event : goal.invariant-loop-event
invariant-loop-event l = record {
  fates_so_far : l.fates_so_far.items ++ fates_along l.program l.played l.place (take l.event-index l.trace) (drop l.event-index l.trace)
      ≡ trace_fates l.program l.played l.place;
  left : (h : ℕ) → left_on l.played l.fates l.ticket l.places.items h
      ≡ drop (requests_on h (take l.event-index l.trace)) (fates_on l.program l.played l.place h);
  many : length l.places.items ≡ length l.fates;
}
