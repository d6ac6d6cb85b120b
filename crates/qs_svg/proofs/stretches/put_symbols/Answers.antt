use Rattle.qs_svg.proofs.Common.{ℕ, ◌∙◌, ap, arith, get_or, length, ◌<◌, get_or_default, Done, no_entry, symbol_x, symbol_y, request_shapes}
use Rattle.qs_svg.proofs.Parts.{one_place_more}
use Rattle.qs_svg.proofs.stretches.put_symbols.Goals as goal

pub loop-number-preserved : goal.loop-number-preserved
loop-number-preserved c =
    let p = c.args.program.now in
    let entries = c.args.entries.now in
    let fates = c.args.fates.now in
    let spot = c.args.spot in
    let n = c.loop-number.number in
    let x = symbol_x spot.column in
    let y = λ (j : ℕ). symbol_y spot.layout spot.column spot.row j in
    let place = c.from-place.ensures in
    let inside : c.from-place.result < length entries = omega (arith, c.loop-number-test.true, c.min-count.ensures, place) in
    let entry = c.index-entries-place.is ∙ get_or_default entries c.from-place.result _ no_entry inside ∙ ap (λ j. get_or entries j no_entry) place in
    let fate = c.fate_at.ensures.fate ∙ ap (λ j. get_or fates j Done) place in
    one_place_more (λ j. request_shapes p x (y j) (get_or entries j no_entry) (get_or fates j Done)) n c.loop-number.invariant
    (rw (c.corner_of-corner.ensures.x, c.corner_of-corner.ensures.y, entry, fate) at c.in_ok-put_request.ensures.ok)
