use Rattle.std.proofs.Common.{◌≤◌}
use Rattle.qs_outcomes.specs.alike.AlikeCounts.{CountsThose, IsSameFrom}
use Rattle.qs_alike.specs.Texts.{classes_in}
use Rattle.qs_outcomes.specs.Outcomes.{outcome_at}
use Rattle.qs_outcomes.proofs.alike.counts.same_from.Given as goal

abbrev pub invariant-loop-other : goal.invariant-loop-other
invariant-loop-other l = record {
  counted : CountsThose (IsSameFrom (classes_in l.classes) (outcome_at l.standing) l.place) l.other l.count;
  few : l.count ≤ l.other;
}
