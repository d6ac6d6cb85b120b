-- What a sound program says of its blocks: none beyond those of its clients, and each reserved object is one of the
-- program.
use Rattle.std.proofs.Common.{◌≡◌, ◌<◌, ◌≤◌, ℕ, nat_lt, ◌==◌, Bool, true, false, List, [], ◌∷◌, length, refl, ap, subst, arith, ⊎_elim, rules}
use Rattle.qs_played.proofs.Names.{get_or_past, Ticket, num_cases, reserves, is_in, IsSound, sound_block}
use Rattle.std.specs.List.{AllByRecursion, IsDistinct}
use Rattle.qs_program.specs.audit.Program.{BlockShape, ProgramShape, blocks_of, client_at, no_block, no_client, text_of}

module _ (program : ProgramShape) (sound : IsSound program) where
  pub no_text : (t : Ticket) → blocks_of program t.client ≤ t.index → text_of program t ≡ no_block
  no_text t out = get_or_past (client_at program t.client).blocks t.index no_block out

  -- a client that isn't the program's has no blocks
  pub none_beyond : (c : ℕ) → length program.clients ≤ c → blocks_of program c ≡ 0
  none_beyond c out = let e : client_at program c ≡ no_client = get_or_past program.clients c no_client out in ap (λ k. length k.blocks) e

  -- what a block reserves is an object of the program
  pub reserved_inside : (t : Ticket) (h : ℕ) → reserves program t h ≡ true → h < length program.objects
  reserved_inside t h m = by_client (nat_lt t.client (length program.clients)) refl
    where
      none : text_of program t ≡ no_block → h < length program.objects
      none e = absurd (let f : is_in [] h ≡ true = subst (λ (b : BlockShape). is_in b.reserved h ≡ true) e m in cc)

      found : (gs : List ℕ) → is_in gs h ≡ true → AllByRecursion (λ g. g < length program.objects) gs → h < length program.objects
      found [] i all = absurd (cc)
      found (g ∷ gs) i all = ⊎_elim
          (λ (is : g ≡ h). subst (λ h. h < length program.objects) is all.0)
          (λ (other : (g == h) ≡ false). found gs (rw other at i) all.1)
          (num_cases g h)

      by_block : t.client < length program.clients → (b : Bool) → nat_lt t.index (blocks_of program t.client) ≡ b → h < length program.objects
      by_block inside true e = found ((text_of program t).reserved) m (sound_block program t.client t.index sound inside (grind (arith, e))).reserved
      by_block inside false e = none (no_text t (grind (arith, e)))

      by_client : (b : Bool) → nat_lt t.client (length program.clients) ≡ b → h < length program.objects
      by_client true e = by_block (grind (arith, e)) (nat_lt t.index (blocks_of program t.client)) refl
      by_client false e = let n = none_beyond t.client (grind (arith, e)) in none (no_text t (omega (arith, n)))

  -- no object stands twice in a block's list, and each is one of the program
  pub distinct_objects : (t : Ticket) → IsDistinct ◌==◌ (text_of program t).reserved
  unfolding IsDistinct
  distinct_objects t = search (rules, sound_block, no_text, none_beyond)

  pub listed_inside : (t : Ticket) → AllByRecursion (λ h. h < length program.objects) (text_of program t).reserved
  listed_inside t = search (rules, sound_block, no_text, none_beyond)
