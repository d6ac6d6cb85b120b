-- The list of each block of a sound program names each object once, and each of them is reserved by the block. The
-- proofs on clients ask for this (`lined`), as a client leaves the objects of its list one after another. It is shown
-- by induction on the list, whose members differ; a ticket that is of no block has an empty list.
use Rattle.std.proofs.Common.{◌≡◌, ◌<◌, ℕ, nat_lt, ◌==◌, ◌||◌, Bool, true, false, List, [], ◌∷◌, length, refl, sym, subst, arith, rules}
use Rattle.qs_played.proofs.Names.{IsDistinct-head, IsDistinct-tail, Ticket, eqb_apart, apart_eqb, eqb_self, reserves, BlockShape, ProgramShape, blocks_of, no_block, text_of, is_in, IsSound, sound_block, each_map}
use Rattle.std.specs.List.{AllByRecursion, IsDistinct}
use Rattle.qs_played.proofs.ReservedObjects.{none_beyond, no_text}
use Rattle.qs_core_laws.proofs.protocol.ClientInvariants.{objects_of_block, Lined}

-- an object of a list of which none is twice is not among those after it
lined_from : (may : ℕ → Bool) (hs : List ℕ) → IsDistinct ◌==◌ hs → AllByRecursion (λ h. may h ≡ true) hs → Lined may hs
lined_from may [] distinct all = tt
lined_from may (h ∷ hs) distinct all = (none hs (IsDistinct-head ◌==◌ h hs distinct), all.0, lined_from may hs (IsDistinct-tail ◌==◌ h hs distinct) all.1)
  where
    none : (gs : List ℕ) → AllByRecursion (λ g. (h == g) ≡ false) gs → is_in gs h ≡ false
    none [] apart = refl
    none (g ∷ gs) apart = let other : (g == h) ≡ false = eqb_apart g h (λ is. apart_eqb h g apart.0 (sym is)) in rw other (none gs apart.1)

each_is_in : (hs : List ℕ) → AllByRecursion (λ h. is_in hs h ≡ true) hs
each_is_in [] = tt
each_is_in (h ∷ hs) = search (rules, eqb_self, each_map, each_is_in hs)

module _ (program : ProgramShape) (sound : IsSound program) where
  pub lined : (t : Ticket) → Lined (reserves program t) (objects_of_block program t)
  lined t = by_client (nat_lt t.client (length program.clients)) refl
    where
      none : text_of program t ≡ no_block → Lined (reserves program t) (objects_of_block program t)
      none e = subst (λ (b : BlockShape). Lined (is_in b.reserved) b.reserved) (sym e) tt

      by_block : t.client < length program.clients → (b : Bool) → nat_lt t.index (blocks_of program t.client) ≡ b → Lined (reserves program t) (objects_of_block program t)
      by_block inside true e = lined_from (reserves program t) (objects_of_block program t) (sound_block program t.client t.index sound inside (grind (arith, e))).distinct (each_is_in (objects_of_block program t))
      by_block inside false e = none (no_text program sound t (grind (arith, e)))

      by_client : (b : Bool) → nat_lt t.client (length program.clients) ≡ b → Lined (reserves program t) (objects_of_block program t)
      by_client true e = by_block (grind (arith, e)) (nat_lt t.index (blocks_of program t.client)) refl
      by_client false e = let n = none_beyond program sound t.client (grind (arith, e)) in none (no_text program sound t (omega (arith, n)))
