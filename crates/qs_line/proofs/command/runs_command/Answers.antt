use Rattle.std.proofs.Common.{◌∙◌, ap}
use Rattle.clap.specs.Words.{app_of}
use Rattle.qs_line.specs.audit.Command.{check_app, graph_app, play_app, rules_app, run_app, with_word}
use Rattle.qs_line.proofs.CommandWords.{adds_word, follows}
use Rattle.qs_line.proofs.command.runs_command.Goals as goal

pub returns : goal.returns
returns c =
    let checked = adds_word c.check_command.result (app_of c.in_ok-checked.checked) (app_of c.named_command.result) check_app c.check_command.ensures.app c.in_ok-checked.ensures.app
    ∙ ap (λ a. with_word a check_app) c.named_command.ensures.app in
    let drawn = adds_word c.graph_command.result (app_of c.in_ok-drawn.drawn) (app_of c.in_ok-checked.checked) graph_app c.graph_command.ensures.app c.in_ok-drawn.ensures.app
    ∙ ap (λ a. with_word a graph_app) checked in
    let ruled = adds_word c.rules_command.result (app_of c.in_ok-ruled.ruled) (app_of c.in_ok-drawn.drawn) rules_app c.rules_command.ensures.app c.in_ok-ruled.ensures.app
    ∙ ap (λ a. with_word a rules_app) drawn in
    let played = adds_word c.play_command.result (app_of c.in_ok-played.played) (app_of c.in_ok-ruled.ruled) play_app c.play_command.ensures.app c.in_ok-played.ensures.app
    ∙ ap (λ a. with_word a play_app) ruled in
    record {
      app = follows c.with_word-5.result _ _ (λ whole is. adds_word c.run_command.result (app_of whole) (app_of c.in_ok-played.played) run_app c.run_command.ensures.app is
          ∙ ap (λ a. with_word a run_app) played) c.with_word-5.ensures.app;
    }
