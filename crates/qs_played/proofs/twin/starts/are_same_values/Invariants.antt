use Rattle.std.proofs.Common.{◌≡◌, drop}
use Rattle.qs_objects.specs.audit.Objects.{values_of}
use Rattle.qs_played.proofs.twin.starts.are_same_values.Given as goal

abbrev pub invariant-loop-place : goal.invariant-loop-place
invariant-loop-place l =
    drop l.place (values_of l.here.content) ≡ drop l.place (values_of l.there.content) → values_of l.here.content ≡ values_of l.there.content
