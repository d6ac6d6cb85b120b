use Rattle.std.proofs.Common.{◌<◌, arith, ap, sym, ◌∙◌}
use Rattle.qs_standings.proofs.going.GoingSets.{in_one}
use Rattle.qs_questions.specs.NamedClients.{is_client, names}
use Rattle.qs_questions.proofs.clients.named_by.Goals as goal

pub returns-in-Some : goal.returns-in-Some
returns-in-Some c =
    let p = c.args.program.now in
    let few = c.keeps_sound.ensures.sound.clients in
    let within = c.in-Some.ensures.within in
    let below : c.in-Some.client < 8 = omega (arith, few, within) in
    record {
      named = in_one c.in-Some.client below ∙ (ap is_client c.in-Some.ensures.client ∙ ap (names p) (sym c.in-Variable.is));
    }
