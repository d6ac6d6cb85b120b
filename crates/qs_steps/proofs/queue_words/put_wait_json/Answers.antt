use Rattle.std.proofs.Common.{◌++◌, codes, false}
use Rattle.qs_steps.proofs.Names.{at_field, field, quoted, truth}
use Rattle.qs_steps.proofs.Queues.{joined, on_ok}
use Rattle.qs_steps.proofs.queue_words.put_wait_json.Goals as goal

pub returns : goal.returns
returns c =
    let out = c.args.out.now.items in
    let done = field (codes "done") (truth false) in
    let waits = field (codes "waits") (quoted c.args.word.now) in
    record {
      ok = on_ok c.put_at.result c.put_at.ensures.ok (λ last. joined out c.put_string.new.out.items c.put_at.new.out.items (done ++ waits) (at_field c.args.program.now c.args.object)
          (joined out c.put.new.out.items c.put_string.new.out.items done waits c.in_ok-put.ensures.ok c.in_ok-put_string.ensures.ok) last);
    }
