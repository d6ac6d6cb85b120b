-- The clients before this one are there, and the next line is this one.
use Rattle.qs_svg.proofs.Common.{◌≡◌, ◌≤◌, ◌+◌, ◌*◌, client_end, lines_before, shapes_up_to, Draws, configuration_in}
use Rattle.qs_svg.proofs.ends.put_client_ends.Given as goal

abbrev pub invariant-loop-client : goal.invariant-loop-client
invariant-loop-client l =
    Draws (shapes_up_to l.client (client_end l.program (configuration_in l.standing).locals l.y)) l.initial.out.items l.out.items
    × (l.line ≡ l.y + 16 * lines_before l.program l.client) × (lines_before l.program l.client ≤ l.client)
