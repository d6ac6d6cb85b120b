use Rattle.std.proofs.Common.{◌∙◌, ap}
use Rattle.clap.specs.Words.{app_of}
use Rattle.qs_line.specs.audit.Command.{syncs_app, with_word}
use Rattle.qs_line.proofs.CommandWords.{adds_word, follows}
use Rattle.qs_line.proofs.command.counted_command.Goals as goal

pub returns : goal.returns
returns c = record {
  app = follows c.with_word.result _ _ (λ whole is. adds_word c.syncs_command.result (app_of whole) (app_of c.in_ok-runs.runs) syncs_app c.syncs_command.ensures.app is
      ∙ ap (λ a. with_word a syncs_app) c.in_ok-runs.ensures.app) c.with_word.ensures.app;
}
