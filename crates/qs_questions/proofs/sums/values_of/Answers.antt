use Rattle.std.proofs.Common.{ap, ◌∙◌, arith, FitsSigned, ℤ, rules, to_z, of_z}
use Rattle.std.specs.Int.{w128}
use Rattle.qs_questions.proofs.Common.{to_z-of_z}
use Rattle.qs_questions.proofs.Noting.{all_ends, few_ends, one_end_more}
use Rattle.qs_questions.specs.SumValues.{sum_at_end}
use Rattle.qs_questions.proofs.sums.values_of.Goals as goal

pub note-requires-clause-few : goal.note-requires-clause-few
note-requires-clause-few c =
    few_ends (sum_at_end c.args.program.now c.args.sum.now) c.args.ends.now c.loop-place.place c.loop-place.values.items
    (omega arith) c.loop-place.invariant.exact

pub loop-place-preserved : goal.loop-place-preserved
loop-place-preserved c =
    let sum = sum_at_end c.args.program.now c.args.sum.now in
    let n : ℤ = c.in_ok-value.value in
    let fits : FitsSigned w128 n = search rules in
    one_end_more sum c.args.ends.now c.loop-place.place c.index-ends-place.result (to_z w128 (of_z w128 n)) _ _
    c.loop-place-test.true (to_z-of_z w128 n fits ∙ c.in_ok-value.ensures.sum ∙ ap sum c.index-ends-place.is)
    c.in_ok-note.ensures.noted c.loop-place.invariant

pub returns : goal.returns
returns c =
    let all = all_ends (sum_at_end c.args.program.now c.args.sum.now) c.args.ends.now c.loop-place.place
    c.loop-place.values.items c.loop-place-test.false c.loop-place.invariant in
    record { ascending = all.0.ascending; listed = all.0.listed; exact = all.0.exact; within = all.1 }
