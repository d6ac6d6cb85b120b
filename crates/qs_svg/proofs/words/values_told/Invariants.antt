-- The values before this place are told, and as many of the others as have room in what is left.
use Rattle.std.specs.Prelude.{◌≡◌, ◌+◌, drop}
use Rattle.qs_svg.proofs.Common.{values_of, told_in, value_room}
use Rattle.qs_svg.proofs.words.values_told.Given as goal

abbrev pub invariant-loop-place : goal.invariant-loop-place
invariant-loop-place l =
    told_in value_room (values_of l.object.content) ≡ l.place + told_in l.room (drop l.place (values_of l.object.content))
