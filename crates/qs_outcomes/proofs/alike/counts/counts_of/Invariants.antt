use Rattle.std.proofs.Common.{take}
use Rattle.qs_outcomes.specs.alike.AlikeOutcomes.{AreCounted}
use Rattle.qs_alike.specs.Texts.{classes_in}
use Rattle.qs_outcomes.proofs.alike.counts.counts_of.Given as goal

abbrev pub invariant-loop-standing : goal.invariant-loop-standing
invariant-loop-standing l = AreCounted (classes_in l.classes) (take l.standing-index l.found) l.counts.items
