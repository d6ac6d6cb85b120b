use Rattle.std.proofs.Common.{◌<◌, ◌+◌, length, subst, sym, ◌∙◌}
use Rattle.qs_outcomes.proofs.Common.{all_legal, classes_in, IfSome, IsLegal, rows_in, StandingShape}
use Rattle.qs_outcomes.specs.Reached.{HasNoted, HasNotedUntil, HasReached}
use Rattle.qs_outcomes.specs.throughout.Courses.{IsCourseWitnessAfter}
use Rattle.qs_outcomes.proofs.throughout.Walking.{all_reached, either, none_met, some_map}
use Rattle.qs_outcomes.proofs.throughout.search.search_from.Goals as goal

pub returns-clause-answer : goal.returns-clause-answer
returns-clause-answer g c =
    let p = c.args.search.now.program.now in
    let k = classes_in c.args.search.now.classes.now in
    let front = c.args.search.now.front.now in
    let asked = g.Q.Question.asked c.args.question.now p in
    let rows = rows_in c.walk.new.state.rows.keys in
    let are = c.requires.prepared.classes in
    record {
      legal = subst (IsLegal p) c.requires.first.order c.requires.first.standing.legal;
      witness = subst (λ w. IfSome w (IsCourseWitnessAfter p front asked)) (sym c.answered-2.ensures.witness) c.in_ok-found.ensures.witness;
      none = λ is. (
          let has = c.in_ok-found.ensures.walked (sym c.answered-2.ensures.witness ∙ is) in (
            none_met are has c.requires.blind,
            subst (HasReached p k all_legal front) (sym c.answered-2.ensures.configurations) (all_reached are has),
          ));
      noted = subst (HasNoted p k all_legal front) (sym c.answered-2.ensures.configurations)
          (either c.in_ok-found.found (λ is. (let all = all_reached are (c.in_ok-found.ensures.walked is) in (all.0, all.1)))
          (some_map (λ s (until : HasNotedUntil p k all_legal front (length rows) s). until.0) c.in_ok-found.found c.in_ok-found.ensures.many));
      enough = subst (λ w. IfSome w (λ (s : StandingShape). length s.order < length front + c.answered-2.result.configurations)) (sym c.answered-2.ensures.witness)
          (subst (λ n. IfSome c.in_ok-found.found (λ (s : StandingShape). length s.order < length front + n)) (sym c.answered-2.ensures.configurations)
          (some_map (λ s (until : HasNotedUntil p k all_legal front (length rows) s). until.1) c.in_ok-found.found c.in_ok-found.ensures.many));
    }
