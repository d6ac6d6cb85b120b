-- The lines of the clients before this one are counted.
use Rattle.qs_svg.proofs.Common.{◌≡◌, ◌≤◌, lines_before}
use Rattle.qs_svg.proofs.ends.all_lines.Given as goal

abbrev pub invariant-loop-client : goal.invariant-loop-client
invariant-loop-client l = (l.lines ≡ lines_before l.program l.client) × (l.lines ≤ l.client)
