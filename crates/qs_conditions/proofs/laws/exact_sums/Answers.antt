use Rattle.qs_conditions.proofs.Complete.{whole_sum_complete}
use Rattle.qs_conditions.proofs.Sound.{whole_sum_sound}
use Rattle.qs_conditions.proofs.laws.exact_sums.Goals as goal

pub returns : goal.returns
returns c = λ xs ts. (whole_sum_sound xs ts, whole_sum_complete xs ts)
