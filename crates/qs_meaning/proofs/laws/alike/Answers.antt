use Rattle.qs_meaning.proofs.AlikeTraces.{blocks_alike, places_alike, values_by_name}
use Rattle.qs_meaning.proofs.laws.alike.Goals as goal

pub returns : goal.returns
returns c = record { blocks = blocks_alike; places = places_alike; by_name = values_by_name }
