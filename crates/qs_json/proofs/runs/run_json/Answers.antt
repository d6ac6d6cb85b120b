use Rattle.qs_text.proofs.Parts.{all_that_is, then}
use Rattle.qs_json.proofs.runs.run_json.Goals as goal

pub returns : goal.returns
returns c =
    let order = then (then c.in_ok-put_word.ensures.ok c.in_ok-put_tickets.ensures.ok) c.in_ok-put_word-2.ensures.ok in
    let states = then (then c.in_ok-put_word-3.ensures.ok c.in_ok-put_objects.ensures.ok) c.in_ok-put_word-4.ensures.ok in
    let clients = then (then c.in_ok-put_word-5.ensures.ok c.in_ok-put_clients.ensures.ok) c.in_ok-put_word-6.ensures.ok in
    record {
      text = all_that_is c.new-out.ensures.items (then (then (then (then (then order states) clients)
          (rw c.syncs.ensures.value at c.in_ok-put_count.ensures.ok)) (rw c.is_finished.ensures.value at c.in_ok-put_truth.ensures.ok)) c.in_ok-put_word-7.ensures.ok);
    }
