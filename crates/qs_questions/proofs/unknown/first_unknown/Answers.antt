use Rattle.std.proofs.Common.{◌≡◌, ◌<◌, None, length, get_or, ap, ◌∙◌, arith, true, false}
use Rattle.std.specs.Option.{is_some}
use Rattle.qs_questions.proofs.UnknownPlaces.{all_has, none_at_end, step_passed, step_stopped}
use Rattle.qs_questions.proofs.unknown.first_unknown.Goals as goal

pub returns-then-is_some-clause-exact : goal.returns-then-is_some-clause-exact
returns-then-is_some-clause-exact c =
    let xs = c.args.condition.now in
    let i = c.loop-step.step-index in
    let same = c.as_slice-step-items.ensures.same in
    let inside : i < length xs = omega (arith, ap length same) in
    let some : is_some c.first_unknown_at-place.result ≡ true = cc in
    step_stopped c.args.program.now xs i c.step-item.result c.first_unknown_at-place.result inside
    (c.step-item.is ∙ ap (λ t. get_or t i c.step-item.result) same) c.first_unknown_at-place.ensures.first
    c.loop-step.invariant some

pub returns-then-is_some-clause-all : goal.returns-then-is_some-clause-all
returns-then-is_some-clause-all c = λ tree e.
    all_has c.args.program.now c.first_unknown_at-place.result c.args.condition.now tree
    (returns-then-is_some-clause-exact c) e

pub loop-step-preserved : goal.loop-step-preserved
loop-step-preserved c =
    let xs = c.args.condition.now in
    let i = c.loop-step.step-index in
    let same = c.as_slice-step-items.ensures.same in
    let inside : i < length xs = omega (arith, ap length same) in
    let none : is_some c.first_unknown_at-place.result ≡ false = cc in
    step_passed c.args.program.now xs i c.step-item.result c.first_unknown_at-place.result inside
    (c.step-item.is ∙ ap (λ t. get_or t i c.step-item.result) same) c.first_unknown_at-place.ensures.first
    c.loop-step.invariant none

pub returns-clause-all : goal.returns-clause-all
returns-clause-all c = λ tree e.
    let xs = c.args.condition.now in
    all_has c.args.program.now None xs tree
    (none_at_end c.args.program.now xs c.loop-step.step-index
    (omega (arith, ap length c.as_slice-step-items.ensures.same)) c.loop-step.invariant) e
