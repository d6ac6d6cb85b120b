-- The lines of the lines' ends so far are there; the line that has begun and what is left have the others.
use Rattle.qs_dot.proofs.Common.{◌≡◌, ◌≤◌, ◌-◌, ◌+◌, ◌++◌, drop, take, anchor_lines}
use Rattle.qs_dot.proofs.node_lines.TextLines.{lines_from}
use Rattle.qs_dot.proofs.node_lines.anchor_lines.anchor_lines.Given as goal

abbrev pub invariant-loop-end : goal.invariant-loop-end
invariant-loop-end l = record {
  lines : l.lines.items ++ lines_from l.number (take (l.end - l.start) (drop l.start l.text)) (drop l.end l.text) ≡ anchor_lines l.text;
  begun : l.start ≤ l.end;
  few : l.number ≤ l.end + 1;
}
