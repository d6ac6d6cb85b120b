use Rattle.std.proofs.Common.{subst}
use Rattle.qs_serial.specs.audit.NamedOrders.{order_of}
use Rattle.qs_core_laws.specs.orders.CoreOrders.{IsPlayedInOrderOn}
use Rattle.qs_serve.proofs.syncs.run_in.Goals as goal

pub returns-in-Ok-clause-played : goal.returns-in-Ok-clause-played
returns-in-Ok-clause-played c =
    subst (λ n. IsPlayedInOrderOn c.args.program.now c.args.mode n (order_of c.args.clients.now) c.in-Ok.played) c.default_size.ensures.size c.in-Ok.ensures.played

pub returns-in-Ok-clause-order : goal.returns-in-Ok-clause-order
returns-in-Ok-clause-order c = c.in-Ok.ensures.played.order

pub returns-in-Ok-clause-counted : goal.returns-in-Ok-clause-counted
returns-in-Ok-clause-counted c = c.in-Ok.ensures.played.counted
