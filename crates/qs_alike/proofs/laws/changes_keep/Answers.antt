use Rattle.qs_alike.proofs.Orders.{changes_keep_orders, changes_keep_outcomes}
use Rattle.qs_alike.proofs.laws.changes_keep.Goals as goal

pub returns : goal.returns
returns c = record { orders = changes_keep_orders; outcomes = changes_keep_outcomes }
