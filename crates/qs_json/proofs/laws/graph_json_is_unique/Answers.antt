use Rattle.qs_json.proofs.OneGraphJson.{one_graph_json}
use Rattle.qs_json.proofs.laws.graph_json_is_unique.Goals as goal

pub returns : goal.returns
returns c = record { unique = one_graph_json }
