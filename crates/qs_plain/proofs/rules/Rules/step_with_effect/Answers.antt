use Rattle.qs_plain.proofs.Reaching.{reached_with_effect}
use Rattle.qs_plain.proofs.rules.Rules.step_with_effect.Goals as goal

pub invariant_of-self : goal.invariant_of-self
invariant_of-self c =
    reached_with_effect c.self.inside.machine c.step_with_effect.new.self c.args.actor c.step_with_effect.result c.self.invariant c.step_with_effect.ensures.steps c.step_with_effect.ensures.unchanged
