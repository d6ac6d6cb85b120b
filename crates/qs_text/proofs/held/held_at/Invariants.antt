-- Of the objects before this one, those that are held.
use Rattle.std.proofs.Common.{◌≡◌, take, filter}
use Rattle.qs_syncset.specs.held.Table.{has}
use Rattle.qs_text.proofs.held.held_at.Given as goal

abbrev pub invariant-loop-object : goal.invariant-loop-object
invariant-loop-object l = l.held.items ≡ filter (has l.sets l.n) (take l.object-index l.reserved)
