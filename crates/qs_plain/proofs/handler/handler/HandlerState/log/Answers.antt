use Rattle.std.proofs.Common.{◌<◌, ◌≤◌, ◌+◌, length, ap, sym, subst, arith}
use Rattle.std.proofs.lemmas.List.{length-drop}
use Rattle.qs_plain.proofs.client.OnePlace.{put_nowhere}
use Rattle.qs_plain.proofs.handler.Logged.{logged_there, room_there}
use Rattle.qs_plain.proofs.Names.{IsPlace, HandlerState}
use Rattle.qs_plain.proofs.handler.handler.HandlerState.log.Goals as goal

pub put-requires : goal.put-requires
put-requires c = room_there c.args.ticket c.self.inside.queues.items c.self.inside.left _ _ _ c.self.view_is c.requires c.self.inside.left 0 (omega arith) c.if-serves.ensures.some _ c.index_mut.ensures.value

pub returns-then-serves : goal.returns-then-serves
returns-then-serves c = record {
  logged = logged_there c.args.ticket c.self.inside.queues.items c.self.inside.left _ _ _ c.self.view_is c.requires c.self.inside.left 0 (omega arith) c.if-serves.ensures.some _ c.index_mut.ensures.value
      c.if-serves.ensures.first c.args.item.now _ (λ k. record { queue = c.put.ensures.queue k; room = c.put.ensures.room k });
}

pub returns-then-place-len : goal.returns-then-place-len
returns-then-place-len c =
    let n = c.last_place-place.result in
    let long = ap (λ (h : HandlerState). length h.queues) c.self.view_is in
    let less : n < length c.args.self.now.queues = omega (arith, c.if-place-len.true, c.len.ensures, long, length-drop c.self.inside.left c.self.inside.queues.items) in
    record {
      logged = logged_there c.args.ticket c.self.inside.queues.items c.self.inside.left _ _ _ c.self.view_is c.requires (c.self.inside.left + n) n (omega arith) less _ c.index_mut-then-place-len.ensures.value
          (subst (λ qs. IsPlace c.args.ticket qs n) c.queues.ensures.value c.last_place-place.ensures.place) c.args.item.now _
          (λ k. record { queue = c.put-then-place-len.ensures.queue k; room = c.put-then-place-len.ensures.room k });
    }

pub returns-else-place-len : goal.returns-else-place-len
returns-else-place-len c =
    let now = c.args.self.now in
    let n = c.last_place-place.result in
    let long = ap (λ (h : HandlerState). length h.queues) c.self.view_is in
    let past : length now.queues ≤ n = omega (arith, c.if-place-len.false, c.len.ensures, long, length-drop c.self.inside.left c.self.inside.queues.items) in
    let far = (subst (λ qs. IsPlace c.args.ticket qs n) c.queues.ensures.value c.last_place-place.ensures.place).nowhere past in
    record { logged = λ k. record { queues = sym (put_nowhere c.args.ticket c.args.item.now now.queues far) k; room = now.room; held = now.held } }
