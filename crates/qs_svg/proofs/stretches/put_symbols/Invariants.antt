-- The requests before this one are there.
use Rattle.qs_svg.proofs.Common.{get_or, Done, shapes_up_to, Draws, no_entry, symbol_x, symbol_y, request_shapes}
use Rattle.qs_svg.proofs.stretches.put_symbols.Given as goal

abbrev pub invariant-loop-number : goal.invariant-loop-number
invariant-loop-number l =
    Draws
    (shapes_up_to l.number
    (λ j. request_shapes l.program (symbol_x l.spot.column) (symbol_y l.spot.layout l.spot.column l.spot.row j) (get_or l.entries j no_entry) (get_or l.fates j Done)))
    l.initial.out.items l.out.items
