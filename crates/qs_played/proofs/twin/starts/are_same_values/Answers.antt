use Rattle.std.proofs.Common.{◌≡◌, arith, pos, sym, ◌∙◌, rules}
use Rattle.qs_played.proofs.twin.Zips.{same_step}
use Rattle.qs_objects.specs.audit.Objects.{values_of}
use Rattle.qs_played.proofs.twin.starts.are_same_values.Goals as goal

pub loop-place-init : goal.loop-place-init
loop-place-init c = λ s. s

pub loop-place-preserved : goal.loop-place-preserved
loop-place-preserved c = λ later.
    c.loop-place.invariant
    (same_step (values_of c.args.here.now.content) (values_of c.args.there.now.content) c.loop-place.place (pos 0)
    (omega (arith, c.loop-place-test.true, c.len-place-end.ensures.count))
    (omega (arith, c.loop-place-test.true, c.len-place-end.ensures.count, c.len.ensures.count, c.len-2.ensures.count, c.if-len.false))
    (let e : c.value.result ≡ c.value-in-loop-place.result = search rules in sym c.value.ensures.value ∙ (e ∙ c.value-in-loop-place.ensures.value)) later)
