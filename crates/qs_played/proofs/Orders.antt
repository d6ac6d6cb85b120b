-- Legal orders of reservations: how many blocks of each client were begun after one, which tickets are in it, and that
-- none is twice.
use Rattle.std.proofs.Common.{List, [], ◌∷◌, sym, subst, inl, inr, ◌≡◌, ◌≢◌, suc, Bool, true, false, if◌then◌else◌, ◌++◌, filter, length, refl, ap, ◌<◌, ◌≤◌, ℕ, ◌==◌, arith, ⊎_elim, rules}
use Rattle.qs_played.proofs.Names.{AllByRecursion, Ticket, same, not_same, same_self, apart_eqb, num_cases, ticket_path, Among, Apart, among_apart, each_map, each_kept, ProgramShape, blocks_of, LegalFrom, put, put_here, put_there}

pub each_among : (P : Ticket → Type 0) → (t : Ticket) (ts : List Ticket) → AllByRecursion P ts → Among t ts → P t
each_among P t [] h a = absurd a
each_among P t (u ∷ us) h a = elim a [ inl is ↦ subst P (sym is) h.0 | inr b ↦ each_among P t us h.1 b ]

pub apart_kept : (f : Ticket → Bool) (ts : List Ticket) → Apart ts → Apart (filter f ts)
apart_kept f [] a = tt
apart_kept f (t ∷ ts) a = by_case (f t) (each_kept (λ u. t ≢ u) f ts a.0) (apart_kept f ts a.1)
  where
    by_case : (b : Bool) → AllByRecursion (λ u. t ≢ u) (filter f ts) → Apart (filter f ts) → Apart (if b then t ∷ filter f ts else filter f ts)
    by_case true n k = (n, k)
    by_case false n k = k

pub apart_both : (xs ys : List Ticket) → Apart (xs ++ ys) → AllByRecursion (λ t. AllByRecursion (λ u. same t u ≡ false) ys) xs
apart_both [] ys a = tt
apart_both (x ∷ xs) ys a = (back xs a.0, apart_both xs ys a.1)
  where
    back : (xs : List Ticket) → AllByRecursion (λ u. x ≢ u) (xs ++ ys) → AllByRecursion (λ u. same x u ≡ false) ys
    back [] n = each_map (λ u k. not_same x u k) ys n
    back (z ∷ zs) n = back zs n.1

-- a ticket of an order that has none twice is there once
pub among_once : (t : Ticket) (ts : List Ticket) → Apart ts → Among t ts → length (filter (same t) ts) ≡ 1
among_once t [] a i = absurd i
among_once t (u ∷ us) a (inl is) =
    let here : same t u ≡ true = subst (λ v. same t v ≡ true) is (same_self t) in
    rw here (ap suc (ap length (none us (subst (λ v. AllByRecursion (λ w. v ≢ w) us) (sym is) a.0))))
  where
    none : (us : List Ticket) → AllByRecursion (λ w. t ≢ w) us → filter (same t) us ≡ []
    none [] n = refl
    none (w ∷ ws) n = rw (not_same t w n.0) (none ws n.1)
among_once t (u ∷ us) a (inr i) = rw (not_same t u (λ is. among_apart u t us a.0 i (sym is))) (among_once t us a.1 i)

-- how many blocks of each client were begun after an order
abbrev pub counts_after : (ℕ → ℕ) → List Ticket → ℕ → ℕ
counts_after b [] = b
counts_after b (t ∷ ts) = counts_after (put b t.client (suc t.index)) ts

pub legal-more : (p : ProgramShape) (b : ℕ → ℕ) (ts : List Ticket) (t : Ticket) → LegalFrom p b ts → t.index ≡ counts_after b ts t.client → t.index < blocks_of p t.client
    → LegalFrom p b (ts ++ t ∷ [])
legal-more p b [] t legal next some = (next, some, tt)
legal-more p b (u ∷ ts) t legal next some = (legal.0, legal.1, legal-more p (put b u.client (suc u.index)) ts t legal.2 next some)

pub counts-more : (b : ℕ → ℕ) (ts : List Ticket) (t : Ticket) → counts_after b (ts ++ t ∷ []) ≡ put (counts_after b ts) t.client (suc t.index)
counts-more b [] t = refl
counts-more b (u ∷ ts) t = counts-more (put b u.client (suc u.index)) ts t

-- more blocks are begun, not fewer
put_more : (b : ℕ → ℕ) (c k : ℕ) → b k ≤ put b c (suc (b c)) k
put_more b c k = search rules

pub counts_grow : (p : ProgramShape) (b : ℕ → ℕ) (ts : List Ticket) (c : ℕ) → LegalFrom p b ts → b c ≤ counts_after b ts c
counts_grow p b [] c legal = omega arith
counts_grow p b (t ∷ ts) c legal =
    let first : b c ≤ put b t.client (suc t.index) c = subst (λ n. b c ≤ put b t.client (suc n) c) (sym legal.0) (put_more b t.client c) in
    omega (arith, first, counts_grow p (put b t.client (suc t.index)) ts c legal.2)

-- a ticket between the counts is in the order
pub legal_among : (p : ProgramShape) (n : ℕ → ℕ) (ts : List Ticket) (c k : ℕ) → LegalFrom p n ts → n c ≤ k → k < counts_after n ts c → Among (record { client = c; index = k }) ts
legal_among p n [] c k g low high = absurd (omega (arith, low, high))
legal_among p n (t ∷ ts) c k g low high =
    ⊎_elim
    (λ (is : t.client ≡ c).
    let e : t.index ≡ n t.client = g.0 in
    let f : n t.client ≡ n c = ap n is in
    let here : put n t.client (suc t.index) c ≡ suc t.index = subst (λ c. put n t.client (suc t.index) c ≡ suc t.index) is (put_here n t.client (suc t.index)) in
    ⊎_elim
    (λ (at : k ≡ t.index). inl (ticket_path (sym is) at))
    (λ (other : (k == t.index) ≡ false). inr (legal_among p (put n t.client (suc t.index)) ts c k g.2 (let ne : k ≢ t.index = apart_eqb k t.index other in omega (arith, here, e, f, ne, low)) high))
    (num_cases k t.index))
    (λ (other : (t.client == c) ≡ false). inr (legal_among p (put n t.client (suc t.index)) ts c k g.2 (let e = put_there n t.client (suc t.index) c other in omega (arith, e, low)) high))
    (num_cases t.client c)
