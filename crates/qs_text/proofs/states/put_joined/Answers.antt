use Rattle.std.proofs.Common.{◌≡◌, ◌++◌, ap, codes, ◌∙◌, length, get_or, pos, arith}
use Rattle.std.specs.Fmt.{signed_decimal}
use Rattle.qs_objects.specs.audit.Objects.{values_of}
use Rattle.qs_text.proofs.Joined.{at_each_place, each_place_more, one_place_more, all_parted}
use Rattle.qs_text.specs.TellApart.{IsWord}
use Rattle.qs_text.specs.audit.Texts.{texts_up_to, spaced_value}
use Rattle.qs_text.proofs.states.put_joined.Goals as goal

pub loop-place-preserved : goal.loop-place-preserved
loop-place-preserved c =
    let values = values_of c.args.object.now.content in (
      one_place_more (spaced_value values) c.loop-place.place _ _ _ c.loop-place.invariant.0 c.in_ok-put_value.ensures.ok,
      each_place_more (λ i. IsWord (get_or values i (pos 0))) c.loop-place.place c.loop-place.invariant.1 c.in_ok-put_value.ensures.word,
    )

pub returns : goal.returns
returns c =
    let values = values_of c.args.object.now.content in
    let all : c.loop-place.place ≡ length values = omega arith in
    record {
      ok = c.loop-place.invariant.0 ∙ ap (λ n. c.args.out.now.items ++ texts_up_to n (spaced_value values)) all ∙ ap (λ l. c.args.out.now.items ++ l) (all_parted (codes " ") signed_decimal (pos 0) values);
      words = at_each_place IsWord (pos 0) values (λ i less. c.loop-place.invariant.1 i (omega (arith, all, less)));
    }
