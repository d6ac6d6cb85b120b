use Rattle.std.proofs.Common.{◌≡◌}
use Rattle.qs_meaning.specs.Reduced.{first_smallest}
use Rattle.qs_standings.specs.going.Going.{IsGrown, begun_counts, in_byte}
use Rattle.qs_standings.proofs.going.going.goes_on.Given as goal

abbrev pub invariant-loop-client : goal.invariant-loop-client
invariant-loop-client l = record {
  best : in_byte l.best ≡ first_smallest l.program (begun_counts l.begun) l.client;
  latest : IsGrown l.program l.begun l.latest.first l.latest.set;
}
