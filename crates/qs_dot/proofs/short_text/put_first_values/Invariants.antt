-- The values before this place are there.
use Rattle.qs_dot.proofs.Common.{◌≡◌, ◌++◌, values_of, spaced_value, texts_up_to}
use Rattle.qs_dot.proofs.short_text.put_first_values.Given as goal

abbrev pub invariant-loop-place : goal.invariant-loop-place
invariant-loop-place l = l.out.items ≡ l.initial.out.items ++ texts_up_to l.place (spaced_value (values_of l.object.content))
