use Rattle.qs_plain_laws.proofs.orders.BlockReached.{orders_played}
use Rattle.qs_plain_laws.proofs.orders.laws.orders_are_played.Goals as goal

pub returns : goal.returns
returns c = record { played = orders_played }
