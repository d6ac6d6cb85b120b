use Rattle.std.proofs.Common.{arith, get_or}
use Rattle.qs_json.specs.ValuesJson.{no_value, value_json}
use Rattle.qs_json.proofs.Elements.{all_elements, one_element_more}
use Rattle.qs_json.proofs.values.put_joined.Goals as goal

pub loop-place-preserved : goal.loop-place-preserved
loop-place-preserved c =
    one_element_more (λ i. value_json c.args.ends.now (get_or c.args.values.now i no_value)) c.loop-place.place c.loop-place.invariant c.in_ok-put_comma.ensures.ok
    c.in_ok-put_value.ensures.ok

pub returns : goal.returns
returns c = record { ok = all_elements (value_json c.args.ends.now) no_value c.args.values.now c.loop-place.place (omega arith) c.loop-place.invariant }
