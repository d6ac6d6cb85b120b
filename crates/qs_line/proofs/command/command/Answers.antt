use Rattle.std.proofs.Common.{◌∙◌, ap}
use Rattle.clap.specs.Words.{app_of}
use Rattle.qs_line.specs.audit.Command.{ask_app, estimate_app, fronts_app, outcomes_app, with_word}
use Rattle.qs_line.proofs.CommandWords.{adds_word, follows}
use Rattle.qs_line.proofs.command.command.Goals as goal

pub returns : goal.returns
returns c =
    let listed = adds_word c.outcomes_command.result (app_of c.in_ok-listed.listed) (app_of c.in_ok-counted.counted) outcomes_app c.outcomes_command.ensures.app c.in_ok-listed.ensures.app
    ∙ ap (λ a. with_word a outcomes_app) c.in_ok-counted.ensures.app in
    let asked = adds_word c.ask_command.result (app_of c.in_ok-asked.asked) (app_of c.in_ok-listed.listed) ask_app c.ask_command.ensures.app c.in_ok-asked.ensures.app
    ∙ ap (λ a. with_word a ask_app) listed in
    let led = adds_word c.fronts_command.result (app_of c.in_ok-led.led) (app_of c.in_ok-asked.asked) fronts_app c.fronts_command.ensures.app c.in_ok-led.ensures.app
    ∙ ap (λ a. with_word a fronts_app) asked in
    record {
      app = follows c.with_word-4.result _ _ (λ whole is. adds_word c.estimate_command.result (app_of whole) (app_of c.in_ok-led.led) estimate_app c.estimate_command.ensures.app is
          ∙ ap (λ a. with_word a estimate_app) led) c.with_word-4.ensures.app;
    }
