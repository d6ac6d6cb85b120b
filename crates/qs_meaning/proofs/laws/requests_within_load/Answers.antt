use Rattle.qs_meaning.proofs.RequestPaths.{requests_within}
use Rattle.qs_meaning.proofs.laws.requests_within_load.Goals as goal

pub returns : goal.returns
returns c = record { within = requests_within }
