use Rattle.std.proofs.Common.{sym, rules}
use Rattle.qs_standings.proofs.Common.{to_z-of_z, values_of}
use mir.Val.{SFits}
use mir.Syntax.{w64}
use Rattle.qs_standings.proofs.RowSteps.{take_got}
use Rattle.qs_standings.proofs.rows.add_object_values.Goals as goal

pub loop-place-preserved : goal.loop-place-preserved
loop-place-preserved c =
    let fits : SFits w64 c.in-Some.value = search rules in
    let added = simp to_z-of_z at c.in_ok-add_number.ensures.added in
    take_got (values_of c.args.object.now.content) c.loop-place.place c.in-Some.value _ _ _ (sym c.in-Some.ensures.value) c.loop-place.invariant added
