use Rattle.qs_alike.proofs.Arranging.{arranged_once}
use Rattle.qs_alike.proofs.laws.arranged_once.Goals as goal

pub returns : goal.returns
returns c = record { once = arranged_once }
