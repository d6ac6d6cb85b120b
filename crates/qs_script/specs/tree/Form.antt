-- The form of a script: how deep statements stand one inside another, and that each block names an object.
use Rattle.std.specs.Prelude.{ℕ, ◌+◌, ◌<◌, ◌≤◌, max, List, length}
use Rattle.std.specs.List.{AllByRecursion}
use Rattle.qs_script.specs.declared.tree.tree.Block.{Block}
use Rattle.qs_script.specs.declared.tree.tree.Item.{Item}
use Rattle.qs_script.specs.declared.tree.tree.Item.TheVariants.{Client, Template}
use Rattle.qs_script.specs.audit.tree.Tree.{Stmts, end, command, query, assign, choose, choose_else, again, leave}
use Rattle.qs_script.specs.audit.tree.Limits.{most_levels}

-- how many statements stand one inside another at most
abbrev pub levels_of : Stmts → ℕ
levels_of end = 0
levels_of (command c rest) = max 1 (levels_of rest)
levels_of (query x c rest) = max 1 (levels_of rest)
levels_of (assign x e rest) = max 1 (levels_of rest)
levels_of (choose t first rest) = max (1 + levels_of first) (levels_of rest)
levels_of (choose_else t first other rest) = max (1 + max (levels_of first) (levels_of other)) (levels_of rest)
levels_of (again n body rest) = max (1 + levels_of body) (levels_of rest)
levels_of (leave rest) = max 1 (levels_of rest)

-- a block names an object, and a statement stands inside at most eight others, so nine stand one inside another
pub record IsFormed (b : Block) : Type 0 where
  pub some : 0 < length b.reserved
  pub shallow : levels_of b.body ≤ most_levels

abbrev pub IsFormedItem : Item → Type 0
IsFormedItem (Client c) = AllByRecursion IsFormed c.blocks
IsFormedItem (Template c) = AllByRecursion IsFormed c.blocks
IsFormedItem _ = Unit {0}

-- the form of every script
abbrev pub HasForm : List Item → Type 0
HasForm items = AllByRecursion IsFormedItem items
