-- The depth of a list of statements is that of its first or of the rest, and a block of a sound program is at most as
-- deep as the language lets it be. The loops over statements stand on the first, and what is counted of a block on the
-- second.
use Rattle.std.proofs.Common.{◌≡◌, ℕ, zero, suc, ◌+◌, ◌<◌, ◌≤◌, max, List, [], ◌∷◌, length, get_or, drop, arith, add-one}
use Rattle.std.specs.List.{AllByRecursion}
use Rattle.std.proofs.Math.Seq.{drop-cons}
use Rattle.qs_script.specs.audit.tree.Limits.{most_levels}
use Rattle.qs_program.specs.declared.code.Stmt.{Stmt}
use Rattle.qs_program.specs.declared.code.Stmt.TheVariants.{Command, Query, Assign, If, Repeat, Leave}
use Rattle.qs_program.specs.audit.Program.{BlockShape, ClientShape, ProgramShape, block_at, no_block, no_client}
use Rattle.qs_program.specs.Sound.{IsFormedBlock, IsFormedClient, IsFormedProgram, IsSound, levels_of}
use Rattle.qs_program.specs.Views.{single, statements_of}
use Rattle.qs_messages.specs.Extents.{turns_of}

levels_of-cons : (s : Stmt) (xs : List Stmt) → levels_of (statements_of (s ∷ xs)) ≡ max (levels_of (single s)) (levels_of (statements_of xs))
levels_of-cons (Command c) xs = omega arith
levels_of-cons (Query x c) xs = omega arith
levels_of-cons (Assign x e) xs = omega arith
levels_of-cons (If t b first other) xs = omega arith
levels_of-cons (Repeat n body) xs = omega arith
levels_of-cons Leave xs = omega arith

pub levels_of_drop : (xs : List Stmt) (i : ℕ) (d : Stmt) → i < length xs
    → levels_of (statements_of (drop i xs)) ≡ max (levels_of (single (get_or xs i d))) (levels_of (statements_of (drop (i + 1) xs)))
levels_of_drop xs i d within = rw (drop-cons xs i d within, add-one) (levels_of-cons (get_or xs i d) (drop (suc i) xs))

turns_of-cons : (s : Stmt) (xs : List Stmt) → turns_of (statements_of (s ∷ xs)) ≡ max (turns_of (single s)) (turns_of (statements_of xs))
turns_of-cons (Command c) xs = omega arith
turns_of-cons (Query x c) xs = omega arith
turns_of-cons (Assign x e) xs = omega arith
turns_of-cons (If t b first other) xs = omega arith
turns_of-cons (Repeat n body) xs = omega arith
turns_of-cons Leave xs = omega arith

pub turns_of_drop : (xs : List Stmt) (i : ℕ) (d : Stmt) → i < length xs
    → turns_of (statements_of (drop i xs)) ≡ max (turns_of (single (get_or xs i d))) (turns_of (statements_of (drop (i + 1) xs)))
turns_of_drop xs i d within = rw (drop-cons xs i d within, add-one) (turns_of-cons (get_or xs i d) (drop (suc i) xs))

levels_in : (n : ℕ) (bs : List BlockShape) (k : ℕ) → AllByRecursion (IsFormedBlock n) bs → levels_of (get_or bs k no_block).body ≤ most_levels
levels_in n [] k each = omega arith
levels_in n (b ∷ bs) zero each = each.0.levels
levels_in n (b ∷ bs) (suc k) each = levels_in n bs k each.1

levels_among : (cs : List ClientShape) (c k : ℕ) → AllByRecursion IsFormedClient cs → levels_of (get_or (get_or cs c no_client).blocks k no_block).body ≤ most_levels
levels_among [] c k each = omega arith
levels_among (client ∷ cs) zero k each = levels_in (length client.variables) client.blocks k each.0.each
levels_among (client ∷ cs) (suc c) k each = levels_among cs c k each.1

pub levels_small : (p : ProgramShape) (c k : ℕ) → IsSound p → levels_of (block_at p c k).body ≤ most_levels
unfolding IsFormedProgram
levels_small p c k sound = levels_among p.clients c k sound.form.1
