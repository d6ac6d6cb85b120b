use Rattle.std.proofs.Common.{append_assoc, ◌∙◌}
use Rattle.qs_steps.proofs.Queues.{on_ok}
use Rattle.qs_steps.proofs.core_queues.put_queue.Goals as goal

pub returns : goal.returns
returns c = record {
  ok = on_ok c.put_json.result c.put_json.ensures.ok (λ last. last
      ∙ simp (c.in_ok-put_tickets.ensures.ok, c.in_ok-put_queue_head.ensures.ok, c.as_slice-waiting.ensures.value, c.in_ok-tickets.ensures.value, append_assoc));
}
