-- How many statements a script has.
use Rattle.std.specs.Prelude.{ℕ, ◌+◌, List, [], ◌∷◌}
use Rattle.qs_script.specs.declared.tree.tree.Block.{Block}
use Rattle.qs_script.specs.declared.tree.tree.Item.{Item}
use Rattle.qs_script.specs.declared.tree.tree.Item.TheVariants.{Client, Template}
use Rattle.qs_script.specs.tree.Views.{size_of}

abbrev pub blocks_size : List Block → ℕ
blocks_size [] = 0
blocks_size (b ∷ bs) = size_of b.body + blocks_size bs

abbrev pub item_size : Item → ℕ
item_size (Client c) = blocks_size c.blocks
item_size (Template c) = blocks_size c.blocks
item_size _ = 0

-- all statements of all blocks, inner ones too
abbrev pub statements : List Item → ℕ
statements [] = 0
statements (i ∷ is) = item_size i + statements is
