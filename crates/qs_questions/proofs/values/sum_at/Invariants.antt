use Rattle.std.proofs.Common.{◌≡◌, ◌*◌, drop, ◌+ℤ◌, ◌-ℤ◌, ◌≤ℤ◌, pos}
use Rattle.qs_questions.proofs.Common.{configuration_in, outcome_in, sum_of}
use Rattle.qs_questions.specs.Questions.{value_at}
use Rattle.qs_questions.proofs.values.sum_at.Given as goal

abbrev pub invariant-loop-summand : goal.invariant-loop-summand
invariant-loop-summand l = record {
  whole : l.total +ℤ sum_of (value_at l.program (outcome_in (configuration_in l.standing))) (drop l.summand-index l.sum)
      ≡ sum_of (value_at l.program (outcome_in (configuration_in l.standing))) l.sum;
  above : (pos 0 -ℤ pos (l.summand-index * 9223372036854775808)) ≤ℤ l.total;
  below : l.total ≤ℤ pos (l.summand-index * 9223372036854775808);
}
