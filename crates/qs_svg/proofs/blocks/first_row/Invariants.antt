-- It is the first row of the objects before this place.
use Rattle.qs_svg.proofs.Common.{◌≡◌, take, first_row}
use Rattle.qs_svg.proofs.blocks.first_row.Given as goal

abbrev pub invariant-loop-object : goal.invariant-loop-object
invariant-loop-object l = l.first ≡ first_row (take l.object-index l.objects)
