use Rattle.qs_line.proofs.Claims.{claims_have_conditions, script_claims_have_conditions}
use Rattle.qs_line.proofs.laws.claims_have_conditions.Goals as goal

pub returns : goal.returns
returns c = record { conditions = claims_have_conditions; of_scripts = script_claims_have_conditions }
