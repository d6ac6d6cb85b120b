use Rattle.qs_svg.proofs.Common.{◌≡◌, arith, values_of, spaced_value, one_text_more}
use Rattle.qs_svg.proofs.words.put_first_values.Goals as goal

pub loop-place-preserved : goal.loop-place-preserved
loop-place-preserved c =
    one_text_more (spaced_value (values_of c.args.object.now.content)) c.loop-place.place c.loop-place.invariant c.in_ok-put_value.ensures.ok

pub returns : goal.returns
returns c = let all : c.loop-place.place ≡ c.args.told = omega arith in record { ok = rw all at c.loop-place.invariant }
