use Rattle.qs_promises.proofs.Rounds.{every_beginning}
use Rattle.qs_promises.proofs.laws.every_beginning_leads_to_an_outcome.Goals as goal

pub returns : goal.returns
returns c = record { leads = every_beginning }
