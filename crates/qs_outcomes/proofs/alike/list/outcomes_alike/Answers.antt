use Rattle.std.proofs.Common.{[], refl, subst, sym, ◌∙◌}
use Rattle.qs_outcomes.proofs.Common.{AllByRecursion, classes_in, each_map, length-map, only_reduced, shape_of}
use Rattle.qs_outcomes.specs.Outcomes.{HasPlaces}
use Rattle.qs_outcomes.specs.Reached.{HasReached}
use Rattle.qs_outcomes.specs.alike.AlikeOutcomes.{AreCounted, IsEnd}
use Rattle.qs_outcomes.proofs.Explored.{has_reached}
use Rattle.qs_outcomes.proofs.Witnesses.{nothing_met}
use Rattle.qs_outcomes.proofs.alike.Listed.{all_becoming, each_end, none_become}
use Rattle.qs_outcomes.proofs.alike.list.outcomes_alike.Goals as goal

pub search_after-requires-clause-blind : goal.search_after-requires-clause-blind
search_after-requires-clause-blind c = λ x is o. refl

pub counts_of-requires-clause-places : goal.counts_of-requires-clause-places
counts_of-requires-clause-places c =
    let explored = c.in_ok-found.ensures.explored (nothing_met c.args.program.now (classes_in c.args.classes.now) [] c.in_ok-found.field-0.witness c.in_ok-found.ensures.witness) in
    subst (AllByRecursion (HasPlaces c.args.program.now)) (sym c.as_slice.ensures.value)
    (each_map (λ s (e : IsEnd c.args.program.now s). e.places) c.in_ok-found.field-0.found.items
    (each_end c.keeps_sound.ensures.sound c.requires.classes explored))

pub returns-clause-outcomes : goal.returns-clause-outcomes
returns-clause-outcomes c =
    let p = c.args.program.now in
    let k = classes_in c.args.classes.now in
    let sound = c.keeps_sound.ensures.sound in
    let are = c.requires.classes in
    let explored = c.in_ok-found.ensures.explored (nothing_met p k [] c.in_ok-found.field-0.witness c.in_ok-found.ensures.witness) in
    record {
      sound = each_end sound are explored;
      complete = all_becoming sound are explored;
      once = none_become sound are explored;
      least = explored.least.least;
      sorted = explored.least.sorted;
      counted = subst (λ ss. AreCounted k ss c.in_ok-counts.counts.items) c.as_slice.ensures.value c.in_ok-counts.ensures.counted;
      reached = subst (HasReached p k only_reduced []) (sym (c.len.ensures.len ∙ sym (length-map c.in_ok-found.field-0.seen.keys shape_of))) (has_reached sound are explored);
    }
