use Rattle.std.proofs.Common.{arith}
use Rattle.qs_json.specs.GraphJson.{name_json}
use Rattle.qs_json.proofs.Elements.{all_elements}
use Rattle.qs_json.proofs.graphs.put_joined.Goals as goal

pub returns : goal.returns
returns c = record { ok = all_elements (name_json c.args.program.now c.args.client) 0 c.args.names.now c.loop-place.place (omega arith) c.loop-place.invariant }
