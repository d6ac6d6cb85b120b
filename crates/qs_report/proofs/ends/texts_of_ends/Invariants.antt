-- The ends before this one are there, and their numbers are words.
use Rattle.std.proofs.Common.{◌≡◌, map, take}
use Rattle.std.specs.List.{AllByRecursion}
use Rattle.qs_report.specs.EndsText.{end_texts}
use Rattle.qs_text.specs.TellApart.{IsEndOfWords}
use Rattle.qs_report.proofs.ends.texts_of_ends.Given as goal

abbrev pub invariant-loop-standing : goal.invariant-loop-standing
invariant-loop-standing l =
    (map (λ text. text.items) l.texts.items ≡ end_texts l.program (take l.standing-index l.found))
    × AllByRecursion (IsEndOfWords l.program) (take l.standing-index l.found)
