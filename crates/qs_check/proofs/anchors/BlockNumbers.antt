-- The anchor of a client's block is one of the script's anchors: it stands among those of the client's item. By
-- induction on the items.
use Rattle.std.proofs.Common.{◌≡◌, ◌<◌, ◌+◌, ℕ, zero, suc, Bool, true, false, List, [], ◌∷◌, length, take, Some, None, if◌then◌else◌, arith, nat_lt, length-append, ltb-true}
use Rattle.qs_script.specs.declared.tree.tree.Block.{Block}
use Rattle.qs_script.specs.declared.tree.tree.Item.{Item}
use Rattle.qs_script.specs.declared.tree.tree.Item.TheVariants.{Client, Started}
use Rattle.qs_check.specs.anchors.Anchors.{block_anchors, blocks_anchors, item_anchors, script_anchors}
use Rattle.qs_check.specs.anchors.Blocks.{own_number, block_number}

-- the anchors of the blocks before one are fewer than those of all
fewer : (bs : List Block) (k : ℕ) → k < length bs → length (blocks_anchors (take k bs)) < length (blocks_anchors bs)
fewer [] k h = absurd (omega (arith, h))
fewer (b ∷ bs) zero h = omega (arith, length-append (block_anchors b) (blocks_anchors bs))
fewer (b ∷ bs) (suc k) h =
    omega (arith, fewer bs k (omega (arith, h)), length-append (block_anchors b) (blocks_anchors bs), length-append (block_anchors b) (blocks_anchors (take k bs)))

chosen : (is : Bool) (n m : ℕ) → (if is then Some n else None) ≡ Some m → (is ≡ true) × (n ≡ m)
chosen true n m h = (cc, cc)
chosen false n m h = cc

own_within : (n : ℕ) (bs : List Block) (k m : ℕ) → own_number n bs k ≡ Some m → m < n + length (blocks_anchors bs) + 1
own_within n bs k m h =
    let found = chosen (nat_lt k (length bs)) (n + length (blocks_anchors (take k bs)) + 1) m h in
    omega (arith, found.1, fewer bs k (ltb-true k (length bs) found.0))

-- the numbers of the items after an item begin after its anchors
after : (n : ℕ) (i : Item) (is : List Item) (m : ℕ) → m < n + length (item_anchors i) + length (script_anchors is) → m < n + length (script_anchors (i ∷ is))
after n i is m h = omega (arith, h, length-append (item_anchors i) (script_anchors is))

within : (n : ℕ) (is : List Item) (c k m : ℕ) → block_number n is c k ≡ Some m → m < n + length (script_anchors is)
within n [] c k m h = cc
within n (Client i ∷ is) zero k m h = omega (arith, own_within n i.blocks k m h, length-append (item_anchors (Client i)) (script_anchors is))
within n (Client i ∷ is) (suc c) k m h = after n (Client i) is m (within (n + length (item_anchors (Client i))) is c k m h)
within n (Started i ∷ is) zero k m h =
    let here : n ≡ m = cc in
    omega (arith, here, length-append (item_anchors (Started i)) (script_anchors is))
within n (Started i ∷ is) (suc c) k m h = after n (Started i) is m (within (n + length (item_anchors (Started i))) is c k m h)
within n (i ∷ is) c k m h = after n i is m (within (n + length (item_anchors i)) is c k m h)

pub blocks_have_anchors : (is : List Item) (c k m : ℕ) → block_number 0 is c k ≡ Some m → m < length (script_anchors is)
blocks_have_anchors is c k m h = omega (arith, within 0 is c k m h)
