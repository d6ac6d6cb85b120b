use Rattle.std.proofs.Common.{length, ap, ◌∙◌, arith}
use Rattle.qs_questions.proofs.Common.{configuration_in, outcome_in}
use Rattle.qs_questions.specs.Questions.{value_at}
use Rattle.qs_questions.proofs.Running.{ended, ended_steps}
use Rattle.qs_questions.proofs.asking.holds.Goals as goal

pub returns : goal.returns
returns c = record {
  answer = c.pop.ensures.last
      ∙ ended_steps (value_at c.args.program.now (outcome_in (configuration_in c.args.standing.now))) c.args.condition.now
      c.loop-step.step-index c.loop-step.answers (omega (arith, ap length c.as_slice-step-items.ensures.same))
      c.loop-step.invariant;
  exact = λ tree e.
      c.pop.ensures.last
      ∙ ended (value_at c.args.program.now (outcome_in (configuration_in c.args.standing.now))) c.args.condition.now
      c.loop-step.step-index c.loop-step.answers tree (omega (arith, ap length c.as_slice-step-items.ensures.same))
      c.loop-step.invariant e;
}
