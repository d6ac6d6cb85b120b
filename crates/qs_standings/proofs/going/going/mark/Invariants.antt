use Rattle.std.proofs.Common.{◌≡◌, ◌<◌, ℕ, if◌then◌else◌, slice_index_or, take}
use Rattle.qs_standings.proofs.Common.{is_in, most_objects}
use Rattle.qs_standings.proofs.going.going.mark.Given as goal

abbrev pub invariant-loop-object : goal.invariant-loop-object
invariant-loop-object l =
    (h : ℕ) → h < most_objects → slice_index_or l.last h 0 ≡ if is_in (take l.object-index l.reserved) h then l.number else slice_index_or l.initial.last h 0
