use Rattle.std.proofs.Common.{◌<◌, ◌+◌, length, subst, sym, ◌∙◌}
use Rattle.qs_outcomes.proofs.Common.{classes_in, IfSome, length-map, only_reduced, order_of, shape_of, StandingShape}
use Rattle.qs_outcomes.specs.Reached.{HasNoted, HasReached}
use Rattle.qs_outcomes.proofs.Explored.{all_found, has_reached}
use Rattle.qs_outcomes.proofs.Witnesses.{none_meets}
use Rattle.qs_outcomes.proofs.lists.ask_watched.Goals as goal

pub returns-in-Ok-clause-answer : goal.returns-in-Ok-clause-answer
returns-in-Ok-clause-answer g c =
    let p = c.args.program.now in
    let k = classes_in c.args.classes.now in
    let front = order_of c.args.front.now in
    let sound = c.keeps_sound.ensures.sound in
    let long = sym (c.len.ensures.len ∙ sym (length-map c.in-Ok.field-0.seen.keys shape_of)) in
    record {
      legal = c.in-Ok.ensures.legal;
      witness = c.in-Ok.ensures.witness;
      none = λ is. (
          let explored = c.in-Ok.ensures.explored is in (
            none_meets front c.requires.blind c.in-Ok.field-0.found.items (all_found sound c.requires.classes explored) (c.in-Ok.ensures.unmet is),
            subst (HasReached p k only_reduced front) long (has_reached sound c.requires.classes explored),
          ));
      noted = subst (HasNoted p k only_reduced front) long c.in-Ok.ensures.noted;
      enough = subst (λ n. IfSome c.in-Ok.field-0.witness (λ (s : StandingShape). length s.order < length front + n)) long c.in-Ok.ensures.enough;
    }
