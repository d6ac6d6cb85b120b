use Rattle.qs_objects.proofs.Replays.{ran_is_faithful}
use Rattle.qs_objects.proofs.laws.journals_stay_honest.Goals as goal

pub returns : goal.returns
returns c = record { law = ran_is_faithful }
