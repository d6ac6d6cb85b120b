-- The steps of a checked program's blocks are few: its load is limited, it has few blocks, and a list names few
-- objects.
use Rattle.std.proofs.Common.{◌≡◌, ◌<◌, ◌≤◌, ◌==◌, ℕ, ◌+◌, ◌*◌, true, List, [], ◌∷◌, length, sum_by, arith, rules}
use Rattle.qs_played.proofs.Names.{sum_by-cons, AllByRecursion, list_any, Declared, BlockShape, ClientShape, block_load, IsSoundBlock, IsSoundClient}
use Rattle.std.proofs.lemmas.Map.Steps.{length-le_from_distinct_below}
use Rattle.qs_plain_laws.specs.progress.Steps.{BoundsAreSmall, steps_of_block, steps_of_client}

below : (m : ℕ) (hs : List ℕ) (q : ℕ) → AllByRecursion (λ h. h < m) hs → list_any (λ h. q == h) hs ≡ true → q < m
below m [] q each e = absurd (cc)
below m (h ∷ hs) q each e = grind (arith, below m hs q each.1)

module _ (objects : List Declared) (few : length objects ≤ 8) where
  pub list_few : (b : BlockShape) → IsSoundBlock objects b → length b.reserved ≤ 8
  list_few b sound =
      let long =
      length-le_from_distinct_below b.reserved (length objects) sound.distinct
      (λ q e. below (length objects) b.reserved q sound.reserved e) in
      let f = few in
      omega (arith, long, f)

  blocks_few : (bs : List BlockShape) → AllByRecursion (IsSoundBlock objects) bs
      → sum_by steps_of_block bs ≤ 2 * sum_by block_load bs + 10 * length bs
  blocks_few [] each = omega arith
  blocks_few (b ∷ bs) each = search (rules, list_few, sum_by-cons, blocks_few bs each.1)

  abbrev load_of_client : ClientShape → ℕ
  load_of_client c = sum_by block_load c.blocks

  clients_few : (cs : List ClientShape) → AllByRecursion (IsSoundClient objects) cs
      → sum_by steps_of_client cs ≤ 2 * sum_by load_of_client cs + 640 * length cs
  clients_few [] each = omega arith
  clients_few (c ∷ cs) each = search (rules, blocks_few, sum_by-cons, clients_few cs each.1)

pub bounds_small : BoundsAreSmall
bounds_small p sound = search (rules, clients_few)
