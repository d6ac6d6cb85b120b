-- The questions so far, and then those of the texts that are left, are those before and of all texts.
use Rattle.std.proofs.Common.{◌≡◌, ◌++◌, drop, map}
use Rattle.qs_line.specs.Line.{question_in}
use Rattle.qs_line.proofs.PartLists.{read_with}
use Rattle.qs_line.proofs.line.with_questions.Given as goal

abbrev pub invariant-loop-text : goal.invariant-loop-text
invariant-loop-text l =
    read_with (question_in l.asking) l.initial.questions.items (map (λ text. text.now) l.texts)
    ≡ read_with (question_in l.asking) l.questions.items (map (λ text. text.now) (drop l.text-index l.texts))
