use Rattle.std.proofs.Common.{◌++◌, ap, codes, cond, length, nat_lt, sym, ◌∙◌}
use Rattle.qs_steps.proofs.Names.{core_of, is_some, lane_room, wait_in, waits_at, waits_nothing}
use Rattle.qs_core.specs.parts.CoreClients.{turns_to}
use Rattle.qs_steps.proofs.CoreQueuesText.{chunk_wait, object_wait}
use Rattle.qs_steps.proofs.Queues.{on_ok}
use Rattle.qs_steps.proofs.core_queues.put_wait.Goals as goal

pub lane_of-requires : goal.lane_of-requires
lane_of-requires c = record { client = c.requires.client; handler = c.client.ensures.turned _ (ap turns_to (sym c.act.ensures.value ∙ c.in-Send.is)) }

pub lane_of-requires-in-Await : goal.lane_of-requires-in-Await
lane_of-requires-in-Await c = record { client = c.requires.client; handler = c.client.ensures.turned _ (ap turns_to (sym c.act.ensures.value ∙ c.in-Await.is)) }

pub lane_of-requires-in-NeedChunk : goal.lane_of-requires-in-NeedChunk
lane_of-requires-in-NeedChunk c = record { client = c.requires.client; handler = c.client.ensures.turned _ (ap turns_to (sym c.act.ensures.value ∙ c.in-NeedChunk.is)) }

pub returns-in-Reserve : goal.returns-in-Reserve
returns-in-Reserve c =
    let wanted = sym (sym c.client.ensures.act ∙ sym c.act.ensures.value ∙ c.in-Reserve.is) in
    record { ok = on_ok c.put.result c.put.ensures.ok (λ text. text ∙ ap (λ ys. c.args.out.now.items ++ ys) (c.nothing.ensures.words ∙ ap (wait_in c.args.form c.args.program.now (core_of c.args.core.now) c.args.client) wanted)) }

pub returns-in-Send : goal.returns-in-Send
returns-in-Send c =
    let f = c.args.form in
    let p = c.args.program.now in
    let wanted = sym (sym c.client.ensures.act ∙ sym c.act.ensures.value ∙ c.in-Send.is) in
    record {
      ok = on_ok c.put_unless.result c.put_unless.ensures.ok (λ text. text ∙ ap (λ ys. c.args.out.now.items ++ ys)
          (ap (λ b. cond b (waits_nothing f) (waits_at f (codes "waits for room to ") (codes "room") p c.in-Send.handler)) (c.has_room-is_there.ensures.value ∙ ap (λ ps. nat_lt (length ps) lane_room) c.lane_of.ensures.lane.down)
          ∙ ap (wait_in f p (core_of c.args.core.now) c.args.client) wanted));
    }

pub returns-in-Await : goal.returns-in-Await
returns-in-Await c =
    let f = c.args.form in
    let p = c.args.program.now in
    let wanted = sym (sym c.client.ensures.act ∙ sym c.act.ensures.value ∙ c.in-Await.is) in
    record {
      ok = on_ok c.put_unless-in-Await.result c.put_unless-in-Await.ensures.ok (λ text. text ∙ ap (λ ys. c.args.out.now.items ++ ys)
          (ap (λ b. cond b (waits_nothing f) (waits_at f (codes "waits for ") (codes "object") p c.in-Await.handler)) (c.has_object-is_there.ensures.value ∙ ap is_some c.lane_of-in-Await.ensures.lane.up)
          ∙ object_wait f p _ _ ∙ ap (wait_in f p (core_of c.args.core.now) c.args.client) wanted));
    }

pub returns-in-NeedChunk : goal.returns-in-NeedChunk
returns-in-NeedChunk c =
    let f = c.args.form in
    let p = c.args.program.now in
    let wanted = sym (sym c.client.ensures.act ∙ sym c.act.ensures.value ∙ c.in-NeedChunk.is) in
    record {
      ok = on_ok c.put_unless-in-NeedChunk.result c.put_unless-in-NeedChunk.ensures.ok (λ text. text ∙ ap (λ ys. c.args.out.now.items ++ ys)
          (ap (λ b. cond b (waits_nothing f) (waits_at f (codes "waits for an empty chunk of ") (codes "chunk") p c.in-NeedChunk.handler)) (c.has_chunk-is_there.ensures.value ∙ ap (nat_lt 0) c.lane_of-in-NeedChunk.ensures.lane.spare)
          ∙ chunk_wait f p _ _ ∙ ap (wait_in f p (core_of c.args.core.now) c.args.client) wanted));
    }
