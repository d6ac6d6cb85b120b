-- The line's number is there so often.
use Rattle.std.proofs.Common.{◌≡◌, ◌++◌, replicate}
use Rattle.qs_dot.proofs.node_lines.anchor_lines.put_line.Given as goal

abbrev pub invariant-loop-anchor : goal.invariant-loop-anchor
invariant-loop-anchor l = l.lines.items ≡ l.initial.lines.items ++ replicate l.anchor l.number
