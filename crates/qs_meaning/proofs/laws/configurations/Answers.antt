use Rattle.qs_meaning.proofs.Orders.{configurations_follow_orders, complete_orders_leave_none}
use Rattle.qs_meaning.proofs.StateRanges.{orders_keep_ranges}
use Rattle.qs_meaning.proofs.Unnamed.{unnamed_stay_zero}
use Rattle.qs_meaning.proofs.laws.configurations.Goals as goal

pub returns : goal.returns
returns c = record { follow = configurations_follow_orders; complete = complete_orders_leave_none; unnamed = unnamed_stay_zero; ranges = orders_keep_ranges }
