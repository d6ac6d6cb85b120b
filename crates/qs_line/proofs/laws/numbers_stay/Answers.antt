use Rattle.qs_line.proofs.ListNumbers.{client_numbers_stay_proof, numbers_stay_proof}
use Rattle.qs_line.proofs.laws.numbers_stay.Goals as goal

pub returns : goal.returns
returns c = record { stay = numbers_stay_proof; clients = client_numbers_stay_proof }
