use Rattle.qs_svg.proofs.Common.{object_told, one_text_more}
use Rattle.qs_svg.proofs.head.put_objects_told.Goals as goal

pub loop-object-preserved : goal.loop-object-preserved
loop-object-preserved c =
    one_text_more (object_told c.args.program.now c.args.played.now) c.loop-object.object c.loop-object.invariant c.in_ok-put_object_told.ensures.ok
