-- The values before this place are there.
use Rattle.qs_svg.proofs.Common.{values_of, texts_up_to, spaced_value, Puts}
use Rattle.qs_svg.proofs.words.put_first_values.Given as goal

abbrev pub invariant-loop-place : goal.invariant-loop-place
invariant-loop-place l = Puts (texts_up_to l.place (spaced_value (values_of l.object.content))) l.initial.out.items l.out.items
