use Rattle.qs_svg.proofs.Common.{all_that_is, then, rules}
use Rattle.qs_svg.proofs.Parts.{last_shape}
use Rattle.qs_svg.proofs.rows.put_state_at.Goals as goal

pub returns : goal.returns
returns c = search (rules, all_that_is, then, last_shape)
