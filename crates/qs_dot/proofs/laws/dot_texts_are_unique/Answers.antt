use Rattle.qs_dot.proofs.OneDrawing.{one_drawing}
use Rattle.qs_dot.proofs.laws.dot_texts_are_unique.Goals as goal

pub returns : goal.returns
returns c = record { unique = one_drawing }
