use Rattle.std.proofs.Common.{Bool, not, ◌++◌, ap, ◌∙◌}
use Rattle.qs_messages.proofs.Below.{one_more}
use Rattle.qs_messages.specs.declared.warned.warning.Warning.TheVariants.{Unreserved}
use Rattle.qs_messages.specs.Warnings.{if_so, object_warnings}
use Rattle.qs_messages.proofs.warned.finding.add_objects.Goals as goal

pub loop-object-preserved : goal.loop-object-preserved
loop-object-preserved c =
    one_more (object_warnings c.args.program.now) c.args.out.now.items c.loop-object.out.items c.add_if.new.out.items c.loop-object.object
    c.loop-object.invariant
    (c.in_ok-add_if.ensures.added ∙ ap (λ (b : Bool). c.loop-object.out.items ++ if_so (not b) (Unreserved c.loop-object.object)) c.is_reserved-is_so.ensures.exact)
