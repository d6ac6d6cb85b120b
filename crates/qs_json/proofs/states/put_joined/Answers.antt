use Rattle.std.proofs.Common.{◌≡◌, arith, get_or, length, pos}
use Rattle.std.specs.Fmt.{signed_decimal}
use Rattle.qs_objects.specs.audit.Objects.{values_of}
use Rattle.qs_text.proofs.Joined.{at_each_place, each_place_more}
use Rattle.qs_text.specs.TellApart.{IsWord}
use Rattle.qs_json.proofs.Elements.{all_elements, one_element_more}
use Rattle.qs_json.proofs.states.put_joined.Goals as goal

pub loop-place-preserved : goal.loop-place-preserved
loop-place-preserved c =
    let values = values_of c.args.object.now.content in (
      one_element_more (λ i. signed_decimal (get_or values i (pos 0))) c.loop-place.place c.loop-place.invariant.0 c.in_ok-put_comma.ensures.ok
          c.in_ok-put_value.ensures.ok,
      each_place_more (λ i. IsWord (get_or values i (pos 0))) c.loop-place.place c.loop-place.invariant.1 c.in_ok-put_value.ensures.word,
    )

pub returns : goal.returns
returns c =
    let values = values_of c.args.object.now.content in
    let all : c.loop-place.place ≡ length values = omega arith in
    record {
      ok = all_elements signed_decimal (pos 0) values c.loop-place.place all c.loop-place.invariant.0;
      words = at_each_place IsWord (pos 0) values (λ i less. c.loop-place.invariant.1 i (omega (arith, all, less)));
    }
