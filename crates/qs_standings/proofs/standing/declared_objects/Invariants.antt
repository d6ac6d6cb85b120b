use Rattle.std.proofs.Common.{◌≡◌, ◌<◌, ℕ, length, slice_index_or}
use Rattle.qs_meaning.specs.audit.Serial.{declared_states, no_state}
use Rattle.qs_standings.proofs.standing.declared_objects.Given as goal

abbrev pub invariant-loop-object : goal.invariant-loop-object
invariant-loop-object l = record {
  count : length l.objects.items ≡ l.object;
  values : (h : ℕ) → h < l.object → slice_index_or l.objects.items h no_state ≡ declared_states l.program h;
}
