use Rattle.std.proofs.Common.{◌≡◌, drop, map}
use Rattle.qs_meaning.specs.Alike.{object_name}
use Rattle.qs_played.proofs.twin.twins.are_same_lists.Given as goal

abbrev pub invariant-loop-place : goal.invariant-loop-place
invariant-loop-place l =
    map (object_name l.program) (drop l.place l.here) ≡ map (object_name l.other) (drop l.place l.there)
    → map (object_name l.program) l.here ≡ map (object_name l.other) l.there
