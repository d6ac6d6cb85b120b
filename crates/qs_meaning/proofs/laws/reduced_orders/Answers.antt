use Rattle.qs_meaning.proofs.Groups.{some_go_on}
use Rattle.qs_meaning.proofs.Reductions.{reduced_orders_suffice}
use Rattle.qs_meaning.proofs.Swaps.{neighbours_swap}
use Rattle.qs_meaning.proofs.laws.reduced_orders.Goals as goal

pub returns : goal.returns
returns c = record { some = some_go_on; swap = neighbours_swap; suffice = reduced_orders_suffice }
