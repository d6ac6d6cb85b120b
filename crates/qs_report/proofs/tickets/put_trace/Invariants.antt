-- The lines before this one are there.
use Rattle.std.proofs.Common.{◌≡◌, ◌≤◌, ◌-◌, ◌++◌, flat_map, length, take}
use Rattle.qs_report.specs.audit.Report.{event_line}
use Rattle.qs_report.proofs.tickets.put_trace.Given as goal

abbrev pub invariant-loop-done : goal.invariant-loop-done
invariant-loop-done l = record {
  items : l.out.items ≡ l.initial.out.items ++ flat_map (event_line l.program) (take l.done l.trace);
  within : l.done ≤ length l.trace;
}

abbrev pub decreases-loop-done : goal.decreases-loop-done
decreases-loop-done l = length l.trace - l.done
