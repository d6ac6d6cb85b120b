-- The steps of a checked program's blocks in the optimised machine are few: its load is limited, it has few blocks, and
-- a list names few objects.
use Rattle.std.proofs.Common.{◌≤◌, ◌+◌, ◌*◌, List, [], ◌∷◌, length, sum_by, arith, rules}
use Rattle.qs_played.proofs.Names.{sum_by-cons, AllByRecursion, Declared, BlockShape, ClientShape, block_load, IsSoundBlock, IsSoundClient}
use Rattle.qs_plain_laws.proofs.progress.SmallBounds.{list_few}
use Rattle.qs_core_laws.specs.progress.CoreSteps.{CoreBoundsAreSmall, core_steps_of_block}

module _ (objects : List Declared) (few : length objects ≤ 8) where
  blocks_few : (bs : List BlockShape) → AllByRecursion (IsSoundBlock objects) bs
      → sum_by core_steps_of_block bs ≤ 6 * sum_by block_load bs + 25 * length bs
  blocks_few [] each = omega arith
  blocks_few (b ∷ bs) each =
      let one = list_few objects few b each.0 in
      let others = blocks_few bs each.1 in
      rw (sum_by-cons core_steps_of_block b bs, sum_by-cons block_load b bs) (omega (arith, one, others))

  clients_few : (cs : List ClientShape) → AllByRecursion (IsSoundClient objects) cs
      → sum_by (λ (c : ClientShape). sum_by core_steps_of_block c.blocks) cs ≤ 6 * sum_by (λ (c : ClientShape). sum_by block_load c.blocks) cs + 1600 * length cs
  clients_few [] each = omega arith
  clients_few (c ∷ cs) each = search (rules, blocks_few, sum_by-cons, clients_few cs each.1)

pub core_bounds_small : CoreBoundsAreSmall
core_bounds_small p sound = search (rules, clients_few)
