use Rattle.std.proofs.Common.{◌≡◌, Err, ap, refl, sym, ◌∙◌}
use Rattle.qs_outcomes.proofs.Common.{alone_classes, classes_in, length-map, order_of, shape_of}
use Rattle.qs_outcomes.specs.declared.fault.OutcomesFault.TheVariants.{Limit}
use Rattle.qs_outcomes.proofs.Listed.{all_listed, more_than}
use Rattle.qs_outcomes.proofs.Witnesses.{nothing_met}
use Rattle.qs_outcomes.proofs.lists.outcomes_watched.Goals as goal

pub search_after-requires : goal.search_after-requires
search_after-requires g c = record {
  classes = alone_classes c.args.program.now (classes_in c.each_alone-classes.result) c.each_alone-classes.ensures.alone;
  blind = λ x is o. refl;
}

pub returns-in-Ok-clause-outcomes : goal.returns-in-Ok-clause-outcomes
returns-in-Ok-clause-outcomes g c =
    let p = c.args.program.now in
    let k = classes_in c.each_alone-classes.result in
    let alone = c.each_alone-classes.ensures.alone in
    let front = order_of c.args.front.now in
    all_listed p k front alone c.keeps_sound.ensures.sound (alone_classes p k alone)
    (c.in-Ok.ensures.explored (nothing_met p k front c.in-Ok.field-0.witness c.in-Ok.ensures.witness)) c.in-Ok.ensures.legal c.len.result
    (c.len.ensures.len ∙ sym (length-map c.in-Ok.field-0.seen.keys shape_of))

pub returns-clause-limit : goal.returns-clause-limit
returns-clause-limit g c = λ is.
    let same : c.in-Err.fault ≡ Limit = cc in
    more_than c.args.program.now (classes_in c.each_alone-classes.result) (order_of c.args.front.now) c.each_alone-classes.ensures.alone c.args.limit
    (c.in-Err.ensures.limit (ap (λ e. Err e) same))
