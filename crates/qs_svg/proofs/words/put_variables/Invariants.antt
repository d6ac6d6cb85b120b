-- The variables before this one are there.
use Rattle.qs_svg.proofs.Common.{texts_up_to, Puts, variable_words}
use Rattle.qs_svg.proofs.words.put_variables.Given as goal

abbrev pub invariant-loop-number : goal.invariant-loop-number
invariant-loop-number l = Puts (texts_up_to l.number (variable_words l.variables l.locals)) l.initial.out.items l.out.items
