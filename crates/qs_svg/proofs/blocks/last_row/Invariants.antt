-- It is the last row of the objects before this place.
use Rattle.qs_svg.proofs.Common.{◌≡◌, take, last_row}
use Rattle.qs_svg.proofs.blocks.last_row.Given as goal

abbrev pub invariant-loop-object : goal.invariant-loop-object
invariant-loop-object l = l.last ≡ last_row (take l.object-index l.objects)
