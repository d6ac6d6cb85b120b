use Rattle.qs_messages.proofs.CertaintyAll.{all_refused, all_zero}
use Rattle.qs_messages.proofs.warned.laws.certainties_are_all.Goals as goal

pub returns : goal.returns
returns c = record { all = record { refused = all_refused; zero = all_zero } }
