-- The anchors so far and those of what is left are the line's; and there are no more of them than bytes.
use Rattle.qs_dot.proofs.Common.{◌≡◌, ◌+◌, ◌≤◌, length, tokens_of, line_anchors}
use Rattle.qs_dot.proofs.node_lines.TextLines.{counted}
use Rattle.qs_dot.proofs.node_lines.anchor_lines.anchors_of.Given as goal

abbrev pub invariant-each : goal.invariant-each
invariant-each l = record {
  count : counted l.count (tokens_of l.rest) ≡ length (line_anchors l.line);
  few : l.count + length l.rest ≤ length l.line;
}

abbrev pub decreases-each : goal.decreases-each
decreases-each l = length l.rest
