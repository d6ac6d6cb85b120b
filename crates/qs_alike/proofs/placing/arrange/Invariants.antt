use Rattle.qs_standings.specs.Standings.{IsStanding, configuration_in}
use Rattle.qs_alike.specs.Changes.{Becomes}
use Rattle.qs_alike.specs.Arranged.{IsArrangedBelow}
use Rattle.qs_alike.specs.Texts.{classes_in}
use Rattle.qs_alike.proofs.placing.arrange.Given as goal

abbrev pub invariant-loop-place : goal.invariant-loop-place
invariant-loop-place l = record {
  standing : IsStanding l.program l.standing.order l.standing;
  becomes : Becomes (classes_in l.classes) (configuration_in l.initial.standing) (configuration_in l.standing);
  below : IsArrangedBelow (classes_in l.classes) (configuration_in l.standing) l.place;
}
