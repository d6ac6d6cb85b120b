-- The objects before this number are there, and their numbers are words.
use Rattle.qs_text.specs.TellApart.{AreObjectsOfWords}
use Rattle.qs_text.specs.audit.Texts.{texts_up_to}
use Rattle.qs_text.specs.Texts.{Puts}
use Rattle.qs_json.specs.audit.Pieces.{element}
use Rattle.qs_json.specs.OutcomesJson.{object_json}
use Rattle.qs_json.proofs.outcomes.put_objects.Given as goal

abbrev pub invariant-loop-object : goal.invariant-loop-object
invariant-loop-object l =
    Puts (texts_up_to l.object (element (object_json l.program l.standing))) l.initial.out.items l.out.items
    × AreObjectsOfWords l.object l.standing
