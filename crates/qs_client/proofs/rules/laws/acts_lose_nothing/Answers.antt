use Rattle.qs_client.proofs.rules.CarriedValues.{acts_lose_nothing}
use Rattle.qs_client.proofs.rules.laws.acts_lose_nothing.Goals as goal

pub returns : goal.returns
returns c = record { whole = acts_lose_nothing }
