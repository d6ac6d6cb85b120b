-- The anchor of a client's block, by its number among the anchors.
use Rattle.std.specs.Prelude.{ℕ, zero, suc, ◌+◌, List, [], ◌∷◌, length, take, Option, Some, None, if◌then◌else◌, nat_lt}
use Rattle.qs_script.specs.declared.tree.tree.Block.{Block}
use Rattle.qs_script.specs.declared.tree.tree.Item.{Item}
use Rattle.qs_script.specs.declared.tree.tree.Item.TheVariants.{Object, Client, Template, Started}
use Rattle.qs_check.specs.anchors.Anchors.{blocks_anchors, item_anchors}

-- the `separate` of a client's own block, where the client's name has the number n
abbrev pub own_number : ℕ → List Block → ℕ → Option ℕ
own_number n blocks k =
    if nat_lt k (length blocks) then Some (n + length (blocks_anchors (take k blocks)) + 1) else None

-- the anchor of block k of the client c of some items, the first of which begins with the anchor n: its `separate`, or
-- the name of a client that is started with a template
abbrev pub block_number : ℕ → List Item → ℕ → ℕ → Option ℕ
block_number n [] c k = None
block_number n (Object o ∷ is) c k = block_number (n + length (item_anchors (Object o))) is c k
block_number n (Template t ∷ is) c k = block_number (n + length (item_anchors (Template t))) is c k
block_number n (Client i ∷ is) zero k = own_number n i.blocks k
block_number n (Client i ∷ is) (suc c) k = block_number (n + length (item_anchors (Client i))) is c k
block_number n (Started i ∷ is) zero k = Some n
block_number n (Started i ∷ is) (suc c) k = block_number (n + length (item_anchors (Started i))) is c k
