-- A list of distinct numbers below m is not longer than m: so a block of a sound program reserves at most eight
-- objects.
use Rattle.std.proofs.Common.{◌≡◌, ◌<◌, ◌≤◌, ℕ, ◌==◌, ◌||◌, Bool, true, false, List, [], ◌∷◌, eqb, length, sym, subst, arith, refl}
use Rattle.std.proofs.lemmas.Map.Steps.{length-le_from_distinct_below}
use Rattle.std.specs.List.{AllByRecursion, IsDistinct, list_any}
use Rattle.qs_program.specs.audit.Program.{ProgramShape, block_at, blocks_of}
use Rattle.qs_program.specs.Sound.{IsSound, IsSoundBlock}
use Rattle.qs_program.proofs.Bounds.{sound_block}
use Rattle.qs_program.specs.audit.Limits.{most_handlers}

member_has : (P : ℕ → Type 0) (xs : List ℕ) (q : ℕ) → AllByRecursion P xs → list_any (eqb q) xs ≡ true → P q
member_has P [] q each member = cc
member_has P (y ∷ ys) q each member = by_test (eqb q y) refl member (member_has P ys q each.1)
  where
    by_test : (b : Bool) → eqb q y ≡ b → (b || list_any (eqb q) ys) ≡ true → (list_any (eqb q) ys ≡ true → P q) → P q
    by_test true e m later = let same : q ≡ y = grind (arith, e) in subst P (sym same) each.0
    by_test false e m later = later m

pub short_list : (xs : List ℕ) (m : ℕ) → IsDistinct ◌==◌ xs → AllByRecursion (λ h. h < m) xs → length xs ≤ m
short_list xs m distinct below = length-le_from_distinct_below xs m distinct (λ q member. member_has (λ h. h < m) xs q below member)

pub few_reserved : (p : ProgramShape) (c k : ℕ) → IsSound p → c < length p.clients → k < blocks_of p c → length (block_at p c k).reserved ≤ most_handlers
few_reserved p c k sound client inside =
    let block : IsSoundBlock p.objects (block_at p c k) = sound_block p c k sound client inside in
    omega (arith, short_list (block_at p c k).reserved (length p.objects) block.distinct block.reserved, sound.objects)
