use Rattle.std.proofs.Common.{◌≡◌, ◌∙◌, ap, subst, sym, take}
use Rattle.qs_serial.specs.audit.NamedOrders.{order_of}
use Rattle.qs_outcomes.specs.estimate.Estimates.{AreBlocksLeft, left}
use Rattle.qs_outcomes.proofs.estimate.BlocksLeft.{are_left}
use Rattle.qs_outcomes.proofs.estimate.estimate.estimate_after.Goals as goal

pub most_orders-requires : goal.most_orders-requires
most_orders-requires c =
    let p = c.args.program.now in
    let front = order_of c.args.front.now in
    let is : take c.clients.result c.all_left-all.result ≡ left p front = ap (λ n. take n c.all_left-all.result) c.clients.ensures.value ∙ c.all_left-all.ensures.left in
    record { left = subst AreBlocksLeft (sym is) (are_left p front c.keeps_sound.ensures.sound) }

pub least_orders-requires : goal.least_orders-requires
least_orders-requires c =
    let p = c.args.program.now in
    let front = order_of c.args.front.now in
    let is : take c.clients.result c.all_left-all.result ≡ left p front = ap (λ n. take n c.all_left-all.result) c.clients.ensures.value ∙ c.all_left-all.ensures.left in
    record { left = subst AreBlocksLeft (sym is) (are_left p front c.keeps_sound.ensures.sound) }
