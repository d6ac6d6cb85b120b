-- The objects before this number are there.
use Rattle.qs_dot.proofs.Common.{◌≡◌, ◌++◌, texts_up_to, short_object}
use Rattle.qs_dot.proofs.short_text.put_objects.Given as goal

abbrev pub invariant-loop-object : goal.invariant-loop-object
invariant-loop-object l = l.out.items ≡ l.initial.out.items ++ texts_up_to l.object (short_object l.program l.standing)
