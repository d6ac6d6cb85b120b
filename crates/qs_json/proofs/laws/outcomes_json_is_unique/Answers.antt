use Rattle.qs_json.proofs.OneOutcomesJson.{one_outcomes_json}
use Rattle.qs_json.proofs.laws.outcomes_json_is_unique.Goals as goal

pub returns : goal.returns
returns c = record { unique = one_outcomes_json }
