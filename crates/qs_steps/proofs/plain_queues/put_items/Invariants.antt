-- The items before this one are there, each after a space.
use Rattle.std.proofs.Common.{◌≡◌, ◌++◌, flat_map, take}
use Rattle.qs_steps.proofs.Names.{between, item_in}
use Rattle.qs_steps.proofs.plain_queues.put_items.Given as goal

abbrev pub invariant-loop-item : goal.invariant-loop-item
invariant-loop-item l = l.out.items ≡ l.initial.out.items ++ flat_map (λ i. between l.form ++ item_in l.form l.program i) (take l.item-index l.items)
