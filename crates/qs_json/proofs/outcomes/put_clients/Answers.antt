use Rattle.std.proofs.Common.{◌≡◌, ap, arith, get_or, length}
use Rattle.qs_meaning.specs.audit.Serial.{zeros}
use Rattle.qs_program.specs.audit.Program.{client_at}
use Rattle.qs_text.specs.TellApart.{AreWords}
use Rattle.qs_json.specs.audit.Pieces.{comma_at}
use Rattle.qs_json.specs.OutcomesJson.{client_json}
use Rattle.qs_json.proofs.Elements.{one_element_more}
use Rattle.qs_text.proofs.Joined.{each_place_more}
use Rattle.qs_text.proofs.Parts.{named}
use Rattle.qs_json.proofs.outcomes.put_clients.Goals as goal

pub loop-client-preserved : goal.loop-client-preserved
loop-client-preserved c = (
  one_element_more (client_json c.args.program.now c.args.standing.now) c.loop-client.client c.loop-client.invariant.0
      (named (ap comma_at c.from.ensures) c.in_ok-put_comma.ensures.ok) (rw c.locals.ensures.locals at c.in_ok-put_client.ensures.ok),
  each_place_more (λ i. AreWords (length (client_at c.args.program.now i).variables) (get_or c.args.standing.now.locals i zeros)) c.loop-client.client c.loop-client.invariant.1 (rw c.locals.ensures.locals at c.in_ok-put_client.ensures.words),
)

pub returns : goal.returns
returns c =
    let all : c.loop-client.client ≡ length c.args.program.now.clients = omega arith in
    rw (← all) (record { ok = c.loop-client.invariant.0; words = c.loop-client.invariant.1 })
