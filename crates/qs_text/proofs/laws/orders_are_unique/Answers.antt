use Rattle.qs_text.proofs.SameOrders.{one_order}
use Rattle.qs_text.proofs.laws.orders_are_unique.Goals as goal

pub returns : goal.returns
returns c = record { unique = one_order }
