-- The objects before this number are there, and their numbers are words.
use Rattle.std.proofs.Common.{◌≡◌, ◌++◌}
use Rattle.qs_report.specs.OutcomesText.{object_line}
use Rattle.qs_text.specs.TellApart.{AreObjectsOfWords}
use Rattle.qs_text.specs.audit.Texts.{texts_up_to}
use Rattle.qs_report.proofs.outcomes.put_objects.Given as goal

abbrev pub invariant-loop-object : goal.invariant-loop-object
invariant-loop-object l =
    (l.out.items ≡ l.initial.out.items ++ texts_up_to l.object (object_line l.program l.standing)) × AreObjectsOfWords l.object l.standing
