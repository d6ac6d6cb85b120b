use Rattle.std.proofs.Common.{◌≤◌}
use Rattle.qs_outcomes.specs.alike.AlikeCounts.{CountsThose, IsAlikeFrom}
use Rattle.qs_alike.specs.Texts.{classes_in}
use Rattle.qs_outcomes.proofs.alike.counts.alike_from.Given as goal

abbrev pub invariant-loop-other : goal.invariant-loop-other
invariant-loop-other l = record {
  counted : CountsThose (IsAlikeFrom (classes_in l.classes) l.place) l.other l.count;
  few : l.count ≤ l.other;
}
