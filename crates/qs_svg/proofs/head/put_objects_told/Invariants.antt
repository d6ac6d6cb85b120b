-- The objects before this one are there.
use Rattle.qs_svg.proofs.Common.{texts_up_to, Puts, object_told}
use Rattle.qs_svg.proofs.head.put_objects_told.Given as goal

abbrev pub invariant-loop-object : goal.invariant-loop-object
invariant-loop-object l = Puts (texts_up_to l.object (object_told l.program l.played)) l.initial.out.items l.out.items
