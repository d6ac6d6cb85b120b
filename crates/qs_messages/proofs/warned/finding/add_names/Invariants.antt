-- The warnings of the names before this one are there.
use Rattle.std.proofs.Common.{◌≡◌, ◌++◌, flat_map, take}
use Rattle.qs_messages.specs.Warnings.{name_warnings}
use Rattle.qs_messages.proofs.warned.finding.add_names.Given as goal

abbrev pub invariant-loop-name : goal.invariant-loop-name
invariant-loop-name l = l.out.items ≡ l.initial.out.items ++ flat_map (name_warnings l.client l.number l.block.body) (take l.name-index l.name-items)
