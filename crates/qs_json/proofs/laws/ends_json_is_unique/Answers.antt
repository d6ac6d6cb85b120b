use Rattle.qs_json.proofs.OneEndsJson.{one_ends_json}
use Rattle.qs_json.proofs.laws.ends_json_is_unique.Goals as goal

pub returns : goal.returns
returns c = record { unique = one_ends_json }
