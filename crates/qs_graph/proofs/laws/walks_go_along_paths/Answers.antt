use Rattle.qs_graph.proofs.Along.{walks_go_along_paths}
use Rattle.qs_graph.proofs.laws.walks_go_along_paths.Goals as goal

pub returns : goal.returns
returns c = record { along = walks_go_along_paths }
