use Rattle.std.proofs.Common.{◌<◌, false, length, slice_index_or, subst, arith}
use Rattle.qs_desk.specs.Wakings.{IsWokenIf}
use Rattle.qs_desk.proofs.Wakings.{leads_on}
use Rattle.qs_desk.proofs.wake.wake_told.Goals as goal

pub loop-handler-preserved : goal.loop-handler-preserved
loop-handler-preserved g c =
    let n = c.loop-handler.handler in
    let waker = c.index-wakers-handler.result in
    let inside : n < length c.args.wakers.now = omega (arith, c.loop-handler-test.true, c.loop-handler.auto.handler-end) in
    leads_on g.W.Wakes.moves c.args.wakers.now c.args.told.now n waker c.args.log.now c.loop-handler.log c.wake_if.new.log inside
    (subst (λ w. IsWokenIf g.W.Wakes.moves w (slice_index_or c.args.told.now n false) c.loop-handler.log c.wake_if.new.log) c.index-wakers-handler.is
    (subst (λ told. IsWokenIf g.W.Wakes.moves waker told c.loop-handler.log c.wake_if.new.log) c.is_told.ensures.told c.wake_if.ensures.woken))
    c.loop-handler.invariant
