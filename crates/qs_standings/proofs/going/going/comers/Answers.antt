use Rattle.std.proofs.Common.{◌<◌, length, subst, sym}
use Rattle.qs_standings.proofs.Common.{AllByRecursion-get_or, still_reserves}
use Rattle.qs_standings.specs.going.Going.{begun_counts}
use Rattle.qs_standings.proofs.going.GoingSets.{objects_more}
use Rattle.qs_standings.proofs.going.going.comers.Goals as goal

pub loop-object-preserved : goal.loop-object-preserved
loop-object-preserved c =
    let small : c.from.result < length c.args.program.now.objects =
    subst (λ h. h < length c.args.program.now.objects) (sym c.from.ensures)
    (AllByRecursion-get_or (λ h. h < length c.args.program.now.objects) c.args.reserved.now c.loop-object.object-index 0 c.requires.within c.loop-object-test.true) in
    objects_more (λ d. still_reserves c.args.program.now (begun_counts c.args.begun.now) d) c.args.reserved.now c.loop-object.object-index c.from.result c.loop-object.set _
    c.loop-object-test.true c.from.ensures (c.requires.holders c.from.result small) c.loop-object.invariant
