use Rattle.std.proofs.Common.{◌≡◌, ◌∙◌, Some, ap, option_map, sym}
use Rattle.std.specs.Prelude.{unwrap_or}
use Rattle.qs_played.specs.audit.Schedule.{most_rounds}
use Rattle.qs_line.specs.audit.Line.{number_in}
use Rattle.qs_line.proofs.Numbers.{parsed_rounds}
use Rattle.qs_line.proofs.plan.rounds_of.Goals as goal

pub returns-in-Some : goal.returns-in-Some
returns-in-Some c =
    let given : option_map (λ text. text.now) c.text_at.result ≡ Some c.in-Some.text.now = ap (option_map (λ text. text.now)) c.in-Some.is in
    record {
      rounds = c.ok.ensures.value ∙ parsed_rounds c.in-Some.text.now c.parse.result c.parse.ensures.value.0
          ∙ ap (λ text. unwrap_or (option_map (number_in 0 4294967295) text) (Some most_rounds)) (sym given ∙ c.text_at.ensures.text);
    }
