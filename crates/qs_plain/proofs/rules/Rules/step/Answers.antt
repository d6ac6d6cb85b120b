use Rattle.std.proofs.Common.{subst}
use Rattle.qs_program.specs.Sound.{IsSound}
use Rattle.qs_plain.proofs.Reaching.{reached_counted, reached_isolated, reached_next}
use Rattle.qs_plain.proofs.rules.Rules.step.Goals as goal

pub invariant_of-self : goal.invariant_of-self
invariant_of-self c =
    reached_next c.self.inside.machine c.step-stepped.new.self c.args.actor c.step-stepped.result c.self.invariant c.step-stepped.ensures.steps c.step-stepped.ensures.unchanged

pub returns-clause-isolated : goal.returns-clause-isolated
returns-clause-isolated c =
    reached_isolated c.step-stepped.new.self (subst IsSound c.program.ensures.value c.keeps_sound.ensures.sound)
    (reached_next c.self.inside.machine c.step-stepped.new.self c.args.actor c.step-stepped.result c.self.invariant c.step-stepped.ensures.steps c.step-stepped.ensures.unchanged)

pub returns-clause-counted : goal.returns-clause-counted
returns-clause-counted c =
    reached_counted c.step-stepped.new.self (subst IsSound c.program.ensures.value c.keeps_sound.ensures.sound)
    (reached_next c.self.inside.machine c.step-stepped.new.self c.args.actor c.step-stepped.result c.self.invariant c.step-stepped.ensures.steps c.step-stepped.ensures.unchanged)
