use Rattle.std.proofs.Common.{◌+◌, false}
use Rattle.qs_steps.proofs.Names.{AreTold, actors_of, rounds_of}
use Rattle.qs_steps.proofs.telling.put_rounds.Given as goal

abbrev pub invariant-loop-round : goal.invariant-loop-round
invariant-loop-round g l = AreTold g.M.Machine.view l.form l.program false (l.picks + 1) (rounds_of l.round (actors_of l.program)) l.fn.out.items l.fn.machine l.out.items l.machine
