use Rattle.std.proofs.Common.{◌≡◌, ◌++◌, ◌∙◌, ap, arith, length, get_or}
use Rattle.qs_meaning.specs.audit.Serial.{zeros}
use Rattle.qs_program.specs.audit.Program.{client_at}
use Rattle.qs_text.proofs.Joined.{each_place_more, one_place_more}
use Rattle.qs_report.specs.OutcomesText.{client_line}
use Rattle.qs_text.specs.TellApart.{AreWords}
use Rattle.qs_text.specs.audit.Texts.{texts_up_to}
use Rattle.qs_report.proofs.outcomes.put_clients.Goals as goal

pub loop-client-preserved : goal.loop-client-preserved
loop-client-preserved c = (
  one_place_more (client_line c.args.program.now c.args.standing.now) c.loop-client.client _ _ _ c.loop-client.invariant.0 c.in_ok-put_client.ensures.ok,
  each_place_more (λ i. AreWords (length (client_at c.args.program.now i).variables) (get_or c.args.standing.now.locals i zeros)) c.loop-client.client
      c.loop-client.invariant.1 c.in_ok-put_client.ensures.words,
)

pub returns : goal.returns
returns c =
    let all : c.loop-client.client ≡ length c.args.program.now.clients = omega arith in
    rw (← all) (record { ok = c.loop-client.invariant.0; words = c.loop-client.invariant.1 })
