use Rattle.std.proofs.Common.{arith, decimal}
use Rattle.qs_json.proofs.Elements.{all_elements}
use Rattle.qs_json.proofs.graphs.put_targets.Goals as goal

pub returns : goal.returns
returns c = record { ok = all_elements decimal 0 c.args.targets.now c.loop-place.place (omega arith) c.loop-place.invariant }
