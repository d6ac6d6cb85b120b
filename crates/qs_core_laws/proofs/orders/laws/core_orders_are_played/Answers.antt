use Rattle.qs_core_laws.proofs.orders.BlocksPlayed.{core_orders_played}
use Rattle.qs_core_laws.proofs.orders.laws.core_orders_are_played.Goals as goal

pub returns : goal.returns
returns c = record { played = core_orders_played }
