-- The variables before this number are there, and each is a word.
use Rattle.qs_text.specs.TellApart.{AreWords}
use Rattle.qs_text.specs.audit.Texts.{texts_up_to}
use Rattle.qs_text.specs.Texts.{Puts}
use Rattle.qs_json.specs.audit.Pieces.{element}
use Rattle.qs_json.specs.audit.Variables.{variable_json}
use Rattle.qs_json.proofs.outcomes.put_values.Given as goal

abbrev pub invariant-loop-number : goal.invariant-loop-number
invariant-loop-number l =
    Puts (texts_up_to l.number (element (variable_json l.variables l.locals))) l.initial.out.items l.out.items × AreWords l.number l.locals
