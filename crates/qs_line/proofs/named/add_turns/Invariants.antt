-- It is there so many times.
use Rattle.std.proofs.Common.{◌≡◌, ◌++◌, replicate}
use Rattle.qs_line.proofs.named.add_turns.Given as goal

abbrev pub invariant-loop-turn : goal.invariant-loop-turn
invariant-loop-turn g l = l.out.items ≡ l.initial.out.items ++ replicate l._turn l.one
