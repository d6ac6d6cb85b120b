use Rattle.qs_levels.proofs.meaning.Reaching.{fronts_cover}
use Rattle.qs_levels.proofs.laws.fronts_cover.Goals as goal

pub returns : goal.returns
returns c = record { cover = fronts_cover }
