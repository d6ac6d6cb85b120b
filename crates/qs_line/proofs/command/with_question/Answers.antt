use Rattle.std.proofs.Common.{◌≡◌, ◌∙◌, ap, false, Result, Ok, Err, IfOk}
use Rattle.clap.specs.Built.{AddsArg}
use Rattle.clap.specs.Words.{Rule, app_of, rule_of, with_rule}
use Rattle.clap.specs.declared.builder.arg.Arg.{Arg}
use Rattle.clap.specs.declared.builder.command.Command.{Command}
use Rattle.qs_line.proofs.command.with_question.Goals as goal

-- a command with one more argument has its rule
adds : {E : Type 0} (old : Command) (a : Arg) (rule : Rule) (r : Result Command E) → IfOk r (λ new. AddsArg old a new) → a.global ≡ false → rule_of a ≡ rule
    → IfOk r (λ new. app_of new ≡ with_rule (app_of old) rule)
adds old a rule (Ok new) added local is = added.shape local ∙ ap (with_rule (app_of old)) is
adds old a rule (Err e) added local is = tt

pub returns-clause-app : goal.returns-clause-app
returns-clause-app c = adds c.args.command c.question_option.result _ c.arg.result c.arg.ensures c.question_option.ensures.local c.question_option.ensures.rule
