use Rattle.std.proofs.Common.{◌∙◌, ap, codes}
use Rattle.clap.specs.Words.{with_rule}
use Rattle.qs_line.specs.audit.Command.{condition_rule}
use Rattle.qs_line.proofs.CommandWords.{follows}
use Rattle.qs_line.proofs.command.claimed.Goals as goal

pub returns-clause-app : goal.returns-clause-app
returns-clause-app c =
    let some = c.in_ok-some.ensures.app ∙ ap (λ a. with_rule a (condition_rule (codes "some"))) c.in_ok-always.ensures.app in
    let throughout = c.in_ok-throughout.ensures.app ∙ ap (λ a. with_rule a (condition_rule (codes "throughout"))) some in
    let ever = c.in_ok-ever.ensures.app ∙ ap (λ a. with_rule a (condition_rule (codes "ever"))) throughout in
    let never = c.in_ok-never.ensures.app ∙ ap (λ a. with_rule a (condition_rule (codes "never"))) ever in
    follows c.with_question-6.result _ _ (λ whole is. is ∙ ap (λ a. with_rule a (condition_rule (codes "values"))) never) c.with_question-6.ensures.app
