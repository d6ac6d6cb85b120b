use Rattle.std.proofs.Common.{◌≡◌, ◌<◌, ◌+◌, [], ◌∷◌, ◌++◌, length, ap, arith, refl, subst, sym, ◌∙◌}
use Rattle.qs_outcomes.proofs.Common.{IfSome, rows_in, RowShape, StandingShape}
use Rattle.qs_outcomes.specs.Answers.{AreUnmet, IsWitnessAfter}
use Rattle.qs_outcomes.specs.Searches.{classes_of}
use Rattle.qs_outcomes.proofs.Explored.{has_reached}
use Rattle.qs_outcomes.proofs.Exploring.{begun, over}
use Rattle.qs_outcomes.proofs.depth.search_ends.Goals as goal

pub loop-standing-init : goal.loop-standing-init
loop-standing-init g c =
    let none : rows_in c.new-2.result.keys ≡ [] = ap rows_in c.new-2.ensures.empty in
    let long : length (rows_in c.new-2.result.keys) ≡ 0 = ap (length {A = RowShape}) none in
    record {
      explored = begun c.requires.first none (c.in_ok-add.ensures.added ∙ ap (λ ss. ss ++ c.args.first ∷ []) c.new-3.ensures.items) c.new.ensures.items;
      unmet = subst (AreUnmet (g.Q.Question.asked c.args.question.now c.args.search.now.program.now)) (sym c.new.ensures.items) tt;
      small = omega (arith, long);
      none = refl;
    }

pub returns-clause-explored : goal.returns-clause-explored
returns-clause-explored g c = λ _.
    over (let e = c.in_default.ensures.cases.0 in let n = c.loop-standing.state.stack.ok.0 in omega (arith, e, n)) c.loop-standing.invariant.explored

pub returns-clause-witness : goal.returns-clause-witness
returns-clause-witness g c =
    subst (λ w. IfSome w (IsWitnessAfter c.args.search.now.program.now (classes_of c.args.search.now) c.args.search.now.front.now
    (g.Q.Question.asked c.args.question.now c.args.search.now.program.now))) (sym c.loop-standing.invariant.none) tt

pub returns-clause-enough : goal.returns-clause-enough
returns-clause-enough g c =
    subst (λ w. IfSome w (λ (s : StandingShape). length s.order < length c.args.search.now.front.now + length (rows_in c.loop-standing.state.seen.keys)))
    (sym c.loop-standing.invariant.none) tt

pub returns-clause-noted : goal.returns-clause-noted
returns-clause-noted g c =
    let all = has_reached c.keeps_sound.ensures.sound c.requires.prepared.classes
    (over (let e = c.in_default.ensures.cases.0 in let n = c.loop-standing.state.stack.ok.0 in omega (arith, e, n)) c.loop-standing.invariant.explored) in (all.0, all.1)
