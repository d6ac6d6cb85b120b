use Rattle.std.proofs.Common.{ap, append_assoc, length, sym, ◌∙◌}
use Rattle.qs_steps.proofs.Names.{QueueState, length-map, listed, private_in}
use Rattle.qs_steps.proofs.Queues.{listed_map, on_ok}
use Rattle.qs_steps.proofs.plain_queues.put_handler.Goals as goal

pub returns : goal.returns
returns c =
    let f = c.args.form in
    let queues = c.queues-queues.result.now in
    let own = λ (q : QueueState). q.queue in
    let text = private_in f c.args.program.now in
    let many = sym (length-map queues own) ∙ ap length c.queues-queues.ensures.value in
    let same = listed_map f text own queues ∙ ap (listed f text) c.queues-queues.ensures.value in
    record {
      ok = on_ok c.put_json-2.result c.put_json-2.ensures.ok (λ last. last
          ∙ simp (c.in_ok-put_json.ensures.ok, c.in_ok-put_privates.ensures.ok, c.in_ok-put_queue_head.ensures.ok, many, same, append_assoc));
    }
