use Rattle.std.proofs.Common.{◌≡◌, ◌<◌, ℕ, length, slice_index_or}
use Rattle.qs_standings.proofs.Common.{most_objects, still_reserves}
use Rattle.qs_standings.specs.going.Going.{begun_counts, in_byte}
use Rattle.qs_standings.proofs.going.going.all_holders.Given as goal

abbrev pub invariant-loop-object : goal.invariant-loop-object
invariant-loop-object l = record {
  long : length l.all ≡ most_objects;
  each : (h : ℕ) → h < l.object → in_byte (slice_index_or l.all h 0) ≡ (λ c. still_reserves l.program (begun_counts l.begun) c h);
}
