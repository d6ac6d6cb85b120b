use Rattle.qs_svg.proofs.FewShapes.{few_shapes}
use Rattle.qs_svg.proofs.laws.few_shapes.Goals as goal

pub returns : goal.returns
returns c = record { few = few_shapes }
