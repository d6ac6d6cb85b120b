use Rattle.qs_dot.proofs.EndNumbers.{ends_have_numbers}
use Rattle.qs_dot.proofs.laws.ends_have_numbers.Goals as goal

pub returns : goal.returns
returns c = record { numbers = ends_have_numbers }
