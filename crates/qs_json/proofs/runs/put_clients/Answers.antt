use Rattle.std.proofs.Common.{◌≡◌, ap, arith, length}
use Rattle.qs_json.specs.audit.Pieces.{comma_at}
use Rattle.qs_json.specs.audit.Replay.{variables_in}
use Rattle.qs_json.specs.audit.Variables.{client_with}
use Rattle.qs_json.proofs.Elements.{one_element_more}
use Rattle.qs_text.proofs.Parts.{named}
use Rattle.qs_json.proofs.runs.put_clients.Goals as goal

pub loop-client-preserved : goal.loop-client-preserved
loop-client-preserved c =
    one_element_more (client_with c.args.program.now (variables_in c.args.program.now c.args.played.now)) c.loop-client.client c.loop-client.invariant
    (named (ap comma_at c.from.ensures) c.in_ok-put_comma.ensures.ok) (rw c.variables_in-locals.ensures.variables at c.in_ok-put_client.ensures.ok)

pub returns : goal.returns
returns c =
    let all : c.loop-client.client ≡ length c.args.program.now.clients = omega arith in
    rw (← all) (record { ok = c.loop-client.invariant })
