use Rattle.std.proofs.Common.{◌≡◌, arith, ◌∙◌, length-set}
use Rattle.qs_meaning.specs.Reduced.{still_reserves}
use Rattle.qs_standings.specs.going.Going.{begun_counts, in_byte}
use Rattle.qs_standings.proofs.going.GoingSets.{set_more}
use Rattle.qs_standings.proofs.going.going.all_holders.Goals as goal

pub loop-object-preserved : goal.loop-object-preserved
loop-object-preserved c = record {
  long = length-set c.loop-object.all c.loop-object.object _ ∙ c.loop-object.invariant.long;
  each = set_more (λ h row. in_byte row ≡ (λ d. still_reserves c.args.program.now (begun_counts c.args.begun.now) d h)) c.loop-object.all c.loop-object.object c.holders.result
      (let l = c.loop-object.invariant.long in let n = c.objects-object-end.ensures.value in let few = c.keeps_sound.ensures.sound.objects in omega (arith, l, n, few)) c.holders.ensures.holders c.loop-object.invariant.each;
}
