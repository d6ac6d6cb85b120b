use Rattle.std.proofs.Common.{append_assoc, ◌∙◌}
use Rattle.qs_steps.proofs.Queues.{on_ok}
use Rattle.qs_steps.proofs.lines.put_reserves_json.Goals as goal

pub returns : goal.returns
returns c = record {
  ok = on_ok c.put-2.result c.put-2.ensures.ok (λ last. last
      ∙ simp (c.in_ok-put_names.ensures.ok, c.reserved_by.ensures.value, c.in_ok-put.ensures.ok, c.in_ok-put_does_ticket.ensures.ok, append_assoc));
}
