use Rattle.qs_text.proofs.TellApart.{states_tell_apart, variables_tell_apart}
use Rattle.qs_text.proofs.laws.texts_tell_apart.Goals as goal

pub returns : goal.returns
returns c = record { states = states_tell_apart; variables = variables_tell_apart }
