use Rattle.qs_json.proofs.EndsApart.{ends_tell_apart}
use Rattle.qs_json.proofs.laws.ends_tell_apart.Goals as goal

pub returns : goal.returns
returns c = record { apart = ends_tell_apart }
