-- The variables before this number are there, and each is a word.
use Rattle.std.proofs.Common.{◌≡◌, ◌++◌}
use Rattle.qs_text.specs.TellApart.{AreWords}
use Rattle.qs_text.specs.audit.Texts.{texts_up_to}
use Rattle.qs_text.specs.Variables.{variable_text}
use Rattle.qs_text.proofs.variables.put_variables.Given as goal

abbrev pub invariant-loop-number : goal.invariant-loop-number
invariant-loop-number l =
    (l.out.items ≡ l.initial.out.items ++ texts_up_to l.number (variable_text l.variables l.locals)) × AreWords l.number l.locals
