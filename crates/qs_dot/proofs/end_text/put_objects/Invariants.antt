-- The objects before this number are there.
use Rattle.qs_dot.proofs.Common.{◌≡◌, ◌++◌, texts_up_to, object_text}
use Rattle.qs_dot.proofs.end_text.put_objects.Given as goal

abbrev pub invariant-loop-object : goal.invariant-loop-object
invariant-loop-object l = l.out.items ≡ l.initial.out.items ++ texts_up_to l.object (object_text l.program l.standing)
