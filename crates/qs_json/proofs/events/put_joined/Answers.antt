use Rattle.std.proofs.Common.{arith, pos}
use Rattle.std.specs.Fmt.{signed_decimal}
use Rattle.qs_json.proofs.Elements.{all_elements}
use Rattle.qs_json.proofs.events.put_joined.Goals as goal

pub returns : goal.returns
returns c = record { ok = all_elements signed_decimal (pos 0) c.args.args.now c.loop-place.place (omega arith) c.loop-place.invariant }
