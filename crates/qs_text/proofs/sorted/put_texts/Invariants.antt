-- The texts before this one are there.
use Rattle.std.proofs.Common.{◌≡◌, ◌++◌, map, take}
use Rattle.qs_text.specs.SortedTexts.{joined}
use Rattle.qs_text.proofs.sorted.put_texts.Given as goal

abbrev pub invariant-loop-text : goal.invariant-loop-text
invariant-loop-text l = l.out.items ≡ l.initial.out.items ++ joined (map (λ text. text.items) (take l.text-index l.texts))
