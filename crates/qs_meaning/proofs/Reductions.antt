-- Every complete order comes to what a reduced one comes to. The first of its blocks whose client goes on comes before
-- all others as well as where it stands: the blocks before it are of other clients, and share no object with it. So it
-- is moved to the front, one neighbour after another, and what is left is shorter by one.
use Rattle.std.proofs.Common.{◌≡◌, ◌<◌, ◌≤◌, ℕ, zero, suc, Bool, true, false, true≢false, ◌==◌, List, [], ◌∷◌, length, get_or, drop, refl, sym, ap, ◌∙◌, subst, arith, ◌⊎◌, inl, inr}
use Rattle.qs_meaning.proofs.Common.{block_at, blocks_of, client_at, eqb_apart, is_in, IsSound, list_any, nat_tests, no_block, ProgramShape, Ticket}
use Rattle.qs_meaning.specs.audit.Configurations.{Configuration, configuration_from, first_configuration, one_block_on}
use Rattle.qs_meaning.specs.Configurations.{outcome_in}
use Rattle.qs_meaning.specs.audit.Reduced.{Counts}
use Rattle.qs_meaning.specs.Reduced.{Clients, IsReducedFrom, IsUndisturbed, ReducedOrdersSuffice, block_reserves, goes_on}
use Rattle.qs_meaning.specs.audit.Serial.{LegalFrom}
use Rattle.qs_meaning.specs.audit.Solo.{put}
use Rattle.qs_meaning.proofs.Groups.{neither, some_go_on}
use Rattle.qs_meaning.proofs.Orders.{complete_orders_leave_none, configurations_follow_orders, legal_on}
use Rattle.qs_meaning.proofs.Swaps.{neighbours_swap}
use Rattle.qs_meaning.proofs.TreeWalks.{put_there}

-- no block from a place on has the property: nor has the one at the place
none_here : {X : Type 0} (f : X → Bool) (xs : List X) (n : ℕ) (d : X) → list_any f (drop n xs) ≡ false → n < length xs → f (get_or xs n d) ≡ false
none_here f [] n d none less = absurd (omega (arith, less))
none_here f (x ∷ xs) zero d none less = (neither (f x) (list_any f xs) none).0
none_here f (x ∷ xs) (suc n) d none less = none_here f xs n d none (omega (arith, less))

-- nor any from the next place on
none_later : {X : Type 0} (f : X → Bool) (xs : List X) (n : ℕ) → list_any f (drop n xs) ≡ false → list_any f (drop (suc n) xs) ≡ false
none_later f [] zero none = none
none_later f [] (suc n) none = none
none_later f (x ∷ xs) zero none = (neither (f x) (list_any f xs) none).1
none_later f (x ∷ xs) (suc n) none = none_later f xs n none

differ : (set : Clients) (c d : ℕ) → set c ≡ true → set d ≡ false → (c == d) ≡ false
differ set c d e f = eqb_apart c d (λ is. true≢false (sym e ∙ (ap set is ∙ f)))

-- where a client outside has begun one more block, the members are no more disturbed than before
still_undisturbed : (p : ProgramShape) (begun : Counts) (set : Clients) (d : ℕ) → set d ≡ false → IsUndisturbed p begun set → IsUndisturbed p (put begun d (suc (begun d))) set
still_undisturbed p begun set d out is = record {
  left = λ c member. subst (λ n. n < blocks_of p c) (sym (here c member)) (is.left c member);
  apart = λ c e h member outside reserved.
      (let own : is_in (block_at p c (begun c)).reserved h ≡ true = subst (λ n. is_in (block_at p c n).reserved h ≡ true) (here c member) reserved in
      let at_d = none_later (block_reserves h) (client_at p d).blocks (begun d) (is.apart c d h member out own) in
      let at_e = is.apart c e h member outside own in grind (arith, nat_tests));
}
  where
    here : (c : ℕ) → set c ≡ true → put begun d (suc (begun d)) c ≡ begun c
    here c member = put_there begun d (suc (begun d)) c (eqb_apart d c (λ is. true≢false (sym member ∙ (ap set (sym is) ∙ out))))

-- a block of a member comes first, and the rest of the order after it
record HasFirst (p : ProgramShape) (g : Configuration) (set : Clients) (order : List Ticket) : Type 0 where
  pub first : Ticket
  pub rest : List Ticket
  pub member : set first.client ≡ true
  pub legal : LegalFrom p g.begun (first ∷ rest)
  pub shorter : length order ≡ suc (length rest)
  pub same : configuration_from p g order ≡ configuration_from p g (first ∷ rest)

-- no block of a member stands in the order
abbrev HasNone : Configuration → ProgramShape → Clients → List Ticket → Type 0
HasNone g p set order = (c : ℕ) → set c ≡ true → (configuration_from p g order).begun c ≡ g.begun c

module _ (p : ProgramShape) (sound : IsSound p) (set : Clients) where
  -- the first block of a member passes the block before it
  passes : (g : Configuration) (t u : Ticket) (rest : List Ticket) → IsUndisturbed p g.begun set → set t.client ≡ false → set u.client ≡ true
      → LegalFrom p g.begun (t ∷ u ∷ rest) → HasFirst p g set (t ∷ u ∷ rest)
  passes g t u rest is out member legal = record {
    first = u;
    rest = t ∷ rest;
    member = member;
    legal = (at_u, less_u, (at_t, less_t, subst (λ n. LegalFrom p n rest) counts (legal_on p (one_block_on p t.client g) u rest (legal_on p g t (u ∷ rest) legal))));
    shorter = refl;
    same = ap (λ g. configuration_from p g rest) swap;
  }
    where
      apart_ut : (u.client == t.client) ≡ false
      apart_ut = differ set u.client t.client member out

      apart_tu : (t.client == u.client) ≡ false
      apart_tu = eqb_apart t.client u.client (λ e. true≢false (sym member ∙ (ap set (sym e) ∙ out)))

      at_u : u.index ≡ g.begun u.client
      at_u = (legal_on p g t (u ∷ rest) legal).0 ∙ put_there g.begun t.client (suc (g.begun t.client)) u.client apart_tu

      less_u : u.index < blocks_of p u.client
      less_u = legal.2.1

      at_t : t.index ≡ put g.begun u.client (suc u.index) t.client
      at_t = legal.0 ∙ sym (put_there g.begun u.client (suc u.index) t.client apart_ut)

      less_t : t.index < blocks_of p t.client
      less_t = legal.1

      left_t : g.begun t.client < blocks_of p t.client
      left_t = (let e = legal.0 in let l = legal.1 in omega (arith, e, l))

      swap : one_block_on p u.client (one_block_on p t.client g) ≡ one_block_on p t.client (one_block_on p u.client g)
      swap =
          sym (neighbours_swap p sound g u.client t.client apart_ut
          (λ h own. none_here (block_reserves h) (client_at p t.client).blocks (g.begun t.client) no_block (is.apart u.client t.client h member out own) left_t))

      counts : (one_block_on p u.client (one_block_on p t.client g)).begun ≡ put (put g.begun u.client (suc u.index)) t.client (suc t.index)
      counts =
          ap (λ (g : Configuration). g.begun) swap
          ∙ (λ i. put (put g.begun u.client (suc (sym at_u i))) t.client (suc ((put_there g.begun u.client (suc (g.begun u.client)) t.client apart_ut ∙ sym legal.0) i)))

  -- and so all the blocks before it
  pulled : (order : List Ticket) (g : Configuration) → LegalFrom p g.begun order → IsUndisturbed p g.begun set → HasFirst p g set order ⊎ HasNone g p set order
  pulled [] g legal is = inr (λ c member. refl)
  pulled (t ∷ ts) g legal is = by_case (set t.client) refl (λ out. pulled ts (one_block_on p t.client g) (legal_on p g t ts legal) (still_undisturbed p g.begun set t.client out is))
    where
      after : set t.client ≡ false → HasFirst p (one_block_on p t.client g) set ts → HasFirst p g set (t ∷ ts)
      after out f =
          let both : LegalFrom p g.begun (t ∷ f.first ∷ f.rest) = (legal.0, legal.1, subst (λ n. LegalFrom p n (f.first ∷ f.rest)) (ap (λ k. put g.begun t.client (suc k)) (sym legal.0)) f.legal) in
          let moved = passes g t f.first f.rest is out f.member both in
          record {
            first = moved.first;
            rest = moved.rest;
            member = moved.member;
            legal = moved.legal;
            shorter = ap suc f.shorter ∙ moved.shorter;
            same = f.same ∙ moved.same;
          }

      by_case : (b : Bool) → set t.client ≡ b → (set t.client ≡ false → HasFirst p (one_block_on p t.client g) set ts ⊎ HasNone (one_block_on p t.client g) p set ts)
          → HasFirst p g set (t ∷ ts) ⊎ HasNone g p set (t ∷ ts)
      by_case true e later = inl (record { first = t; rest = ts; member = e; legal = legal; shorter = refl; same = refl })
      by_case false e later = elim (later e) [
        | inl f ↦ inl (after e f)
        | inr none ↦ inr (λ c member. none c member
            ∙ put_there g.begun t.client (suc (g.begun t.client)) c (eqb_apart t.client c (λ is. true≢false (sym member ∙ (ap set (sym is) ∙ e)))))
      ]

-- a reduced order from a configuration on, to the same configuration
pub record ReducedFrom (p : ProgramShape) (g : Configuration) (order : List Ticket) : Type 0 where
  pub reduced : List Ticket
  pub legal : LegalFrom p g.begun reduced
  pub is_reduced : IsReducedFrom p g reduced
  pub same : configuration_from p g reduced ≡ configuration_from p g order

-- an order that leaves no block, of at most so many tickets
pub reduced_from : (p : ProgramShape) → IsSound p → (many : ℕ) (g : Configuration) (order : List Ticket) → length order ≤ many → LegalFrom p g.begun order
    → ((c : ℕ) → (configuration_from p g order).begun c ≡ blocks_of p c) → ReducedFrom p g order
reduced_from p sound many g [] few legal ends = record { reduced = []; legal = tt; is_reduced = tt; same = refl }
reduced_from p sound zero g (t ∷ ts) few legal ends = absurd (let f : length (t ∷ ts) ≤ 0 = few in omega (arith, f))
reduced_from p sound (suc many) g (t ∷ ts) few legal ends =
    by_first (pulled p sound (goes_on p g.begun) (t ∷ ts) g legal (some_go_on p g.begun).undisturbed) (reduced_from p sound many)
  where
    left : g.begun t.client < blocks_of p t.client
    left = (let e = legal.0 in let l = legal.1 in omega (arith, e, l))

    by_first : HasFirst p g (goes_on p g.begun) (t ∷ ts) ⊎ HasNone g p (goes_on p g.begun) (t ∷ ts)
        → ((h : Configuration) (order : List Ticket) → length order ≤ many → LegalFrom p h.begun order → ((c : ℕ) → (configuration_from p h order).begun c ≡ blocks_of p c) → ReducedFrom p h order)
        → ReducedFrom p g (t ∷ ts)
    by_first (inl f) later =
        let rest = later (one_block_on p f.first.client g) f.rest (let s = f.shorter in omega (arith, s, few)) (legal_on p g f.first f.rest f.legal)
        (λ c. sym (ap (λ (h : Configuration). h.begun c) f.same) ∙ ends c) in
        record {
          reduced = f.first ∷ rest.reduced;
          legal = (f.legal.0, f.legal.1, subst (λ n. LegalFrom p n rest.reduced) (ap (λ k. put g.begun f.first.client (suc k)) (sym f.legal.0)) rest.legal);
          is_reduced = (f.member, rest.is_reduced);
          same = rest.same ∙ sym f.same;
        }
    by_first (inr none) later =
        let one = (some_go_on p g.begun).some t.client left in
        let before : g.begun one.0 < blocks_of p one.0 = (some_go_on p g.begun).undisturbed.left one.0 one.1 in
        let kept : (configuration_from p g (t ∷ ts)).begun one.0 ≡ g.begun one.0 = none one.0 one.1 in
        let over : (configuration_from p g (t ∷ ts)).begun one.0 ≡ blocks_of p one.0 = ends one.0 in
        absurd (omega (arith, before, kept, over))

pub reduced_orders_suffice : ReducedOrdersSuffice
reduced_orders_suffice p sound order complete =
    let ends = (complete_orders_leave_none p order complete.legal).0 complete in
    let r = reduced_from p sound (length order) (first_configuration p) order (omega arith) complete.legal ends in
    record {
      reduced = r.reduced;
      is_complete = (complete_orders_leave_none p r.reduced r.legal).1 (λ c. ap (λ (h : Configuration). h.begun c) r.same ∙ ends c);
      is_reduced = r.is_reduced;
      same = sym (configurations_follow_orders p r.reduced r.legal) ∙ (ap outcome_in r.same ∙ configurations_follow_orders p order complete.legal);
    }
