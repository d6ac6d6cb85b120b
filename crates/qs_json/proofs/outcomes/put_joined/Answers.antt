use Rattle.std.proofs.Common.{arith, get_or}
use Rattle.qs_text.specs.audit.Words.{first_ticket}
use Rattle.qs_json.specs.OutcomesJson.{next_client_json}
use Rattle.qs_json.proofs.Elements.{all_elements, one_element_more}
use Rattle.qs_json.proofs.outcomes.put_joined.Goals as goal

pub loop-place-preserved : goal.loop-place-preserved
loop-place-preserved c =
    one_element_more (λ i. next_client_json (get_or c.args.order.now i first_ticket)) c.loop-place.place c.loop-place.invariant c.in_ok-put_comma.ensures.ok
    c.in_ok-put_next_client.ensures.ok

pub returns : goal.returns
returns c = record { ok = all_elements next_client_json first_ticket c.args.order.now c.loop-place.place (omega arith) c.loop-place.invariant }
