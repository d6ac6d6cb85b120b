-- The lines before this one are there, and there is room for those that come.
use Rattle.std.proofs.Common.{◌≡◌, ◌≤◌, ◌+◌, ◌-◌, ◌*◌, ◌++◌, flat_map, length, take, vec_capacity, vec_len}
use Rattle.qs_report.specs.Lines.{longest_line}
use Rattle.qs_report.specs.audit.Report.{event_line}
use Rattle.qs_report.proofs.lines.put_first.Given as goal

abbrev pub invariant-loop-place : goal.invariant-loop-place
invariant-loop-place l = record {
  items : l.out.items ≡ l.initial.out.items ++ flat_map (event_line l.program) (take l.place l.trace);
  room : vec_len l.out + longest_line * (length l.trace - l.place) ≤ vec_capacity l.out;
}
