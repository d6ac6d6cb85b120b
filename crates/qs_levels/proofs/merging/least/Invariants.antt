use Rattle.qs_levels.specs.Merging.{IsLeastTo, rests_of}
use Rattle.qs_levels.proofs.merging.least.Given as goal

abbrev pub invariant-loop-number : goal.invariant-loop-number
invariant-loop-number l = IsLeastTo (rests_of l.places l.parts) l.number l.best
