use Rattle.qs_standings.specs.Standings.{IsStanding, configuration_in}
use Rattle.qs_alike.specs.Changes.{Becomes}
use Rattle.qs_alike.specs.Arranged.{IsArrangedBelow}
use Rattle.qs_alike.specs.Texts.{classes_in}
use Rattle.qs_alike.proofs.Exchanging.{IsLeastUpTo}
use Rattle.qs_alike.proofs.placing.settle.Given as goal

abbrev pub invariant-loop-other : goal.invariant-loop-other
invariant-loop-other l = record {
  standing : IsStanding l.program l.standing.order l.standing;
  becomes : Becomes (classes_in l.classes) (configuration_in l.initial.standing) (configuration_in l.standing);
  below : IsArrangedBelow (classes_in l.classes) (configuration_in l.standing) l.place;
  least : IsLeastUpTo (classes_in l.classes) (configuration_in l.standing) l.place l.other;
}
