use Rattle.qs_outcomes.proofs.estimate.MostOrders.{most_suffices, most_suffices_for_answers}
use Rattle.qs_outcomes.proofs.estimate.laws.most_suffices.Goals as goal

pub returns : goal.returns
returns c = record { reduced = most_suffices; answers = most_suffices_for_answers }
