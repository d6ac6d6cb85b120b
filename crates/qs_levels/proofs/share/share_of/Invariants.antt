use Rattle.qs_levels.proofs.Common.{◌≡◌, ◌≤◌, ◌*◌, begun_counts, weighted, weight}
use Rattle.qs_levels.proofs.share.share_of.Given as goal

abbrev pub invariant-loop-client : goal.invariant-loop-client
invariant-loop-client l = record {
  mark : l.mark ≡ weighted weight l.client (begun_counts l.begun);
  small : l.mark ≤ l.client * 255;
}
