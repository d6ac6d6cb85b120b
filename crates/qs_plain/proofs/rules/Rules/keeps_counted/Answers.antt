use Rattle.std.proofs.Common.{ap, subst, ◌∙◌}
use Rattle.qs_program.specs.Sound.{IsSound}
use Rattle.qs_plain.specs.Rules.{IsSteppedTo, RulesState}
use Rattle.qs_plain.proofs.Reaching.{reached_counted}
use Rattle.qs_plain.proofs.rules.Rules.keeps_counted.Goals as goal

pub returns : goal.returns
returns c =
    let sound = subst IsSound (c.program.ensures.value ∙ ap (λ (r : RulesState). r.program) c.self.view_is) c.keeps_sound.ensures.sound in
    record { counted = reached_counted c.args.self.now sound (subst IsSteppedTo c.self.view_is c.self.invariant) }
