-- Sums of loads, for the room of a journal: what is run of each reservation is within its block's load, and a legal
-- order has no block twice.
use Rattle.std.proofs.Common.{◌≡◌, ◌<◌, ◌≤◌, ◌+◌, ◌-◌, arith, ℕ, zero, suc, Bool, true, false, if◌then◌else◌, ◌==◌, List, [], ◌∷◌, ◌++◌, length, filter, sum_by, refl, sym, ap, ◌∙◌, ⊎_elim, rules}
use Rattle.qs_played.proofs.Names.{AllByRecursion, range_with_len, get_or_past, sum_by-cons, part, Event, Ticket, num_cases, eqb_apart, apart_eqb, Leads, load_of, LegalFrom, put, value_of, put_here, put_there, room_of}
use Rattle.qs_meaning.specs.audit.Interaction.{Interaction, Done, Call, Query}
use Rattle.qs_meaning.specs.Paths.{counts, Within}
use Rattle.qs_program.specs.audit.Program.{ProgramShape, block_at, blocks_of, text_of}

abbrev pub total : (Ticket → ℕ) → List Ticket → ℕ
total f [] = 0
total f (t ∷ ts) = f t + total f ts

pub total_less : (f g : Ticket → ℕ) (ts : List Ticket) → AllByRecursion (λ t. f t ≤ g t) ts → total f ts ≤ total g ts
total_less f g [] h = omega arith
total_less f g (t ∷ ts) h = omega (arith, h.0, total_less f g ts h.1)

pub total_append : (f : Ticket → ℕ) (xs ys : List Ticket) → total f (xs ++ ys) ≡ total f xs + total f ys
total_append f [] ys = omega arith
total_append f (x ∷ xs) ys = omega (arith, total_append f xs ys)

pub total_filter : (f : Ticket → ℕ) (k : Ticket → Bool) (ts : List Ticket) → total f (filter k ts) ≤ total f ts
total_filter f k [] = omega arith
total_filter f k (t ∷ ts) = by_case (k t) (total_filter f k ts)
  where
    by_case : (b : Bool) → total f (filter k ts) ≤ total f ts → total f (if b then t ∷ filter k ts else filter k ts) ≤ f t + total f ts
    by_case true ih = omega (arith, ih)
    by_case false ih = omega (arith, ih)

part_counts : (h : ℕ) (e : Event) (es : List Event) → length (part h (e ∷ es)) ≡ counts h e.request + length (part h es)
part_counts h e es = search (rules, e)

-- a trace along a tree has at most as many requests on an object as any path
pub leads_within : (h : ℕ) (t : Interaction) (es : List Event) (rest : Interaction) (n : ℕ) → Leads t es rest → Within h t n → length (part h es) ≤ n
leads_within h t [] rest n p w = omega arith
leads_within h (Done l) (e ∷ es) rest n p w = absurd p
leads_within h (Call r next) (e ∷ es) rest n p w =
    let k = leads_within h next es rest (n - counts h r) p.1 w.1 in
    let c = part_counts h e es in
    let one : counts h e.request ≡ counts h r = ap (λ (e : Event). counts h e.request) p.0 in
    let le = w.0 in
    omega (arith, k, c, one, le)
leads_within h (Query r next) (e ∷ es) rest n p w =
    let k = leads_within h (next (value_of e.reply)) es rest (n - counts h r) p.1 (w.1 (value_of e.reply)) in
    let c = part_counts h e es in
    let one : counts h e.request ≡ counts h r = ap (counts h) p.0 in
    let le = w.0 in
    omega (arith, k, c, one, le)

-- beyond the clients there is no block
pub no_block_beyond : (p : ProgramShape) (c : ℕ) → 0 < blocks_of p c → c < length p.clients
no_block_beyond p c some = search (rules, get_or_past)

-- sums over clients, of which one number changes
pub sum_same : (f g : ℕ → ℕ) (a n : ℕ) → ((c : ℕ) → a ≤ c → f c ≡ g c) → sum_by f (range_with_len a n) ≡ sum_by g (range_with_len a n)
sum_same f g a zero e = refl
sum_same f g a (suc n) e =
    let here : f a ≡ g a = e a (omega arith) in
    let ih = sum_same f g (a + 1) n (λ c le. e c (omega (arith, le))) in
    rw (sum_by-cons f a (range_with_len (a + 1) n), sum_by-cons g a (range_with_len (a + 1) n)) (omega (arith, here, ih))

pub sum_changed : (f g : ℕ → ℕ) (m : ℕ) (a n : ℕ) → ((c : ℕ) → (m == c) ≡ false → f c ≡ g c) → a ≤ m → m < a + n
    → sum_by f (range_with_len a n) + g m ≡ sum_by g (range_with_len a n) + f m
sum_changed f g m a zero e low high = absurd (omega (arith, low, high))
sum_changed f g m a (suc n) e low high =
    ⊎_elim
    (λ (is : m ≡ a).
    let later = sum_same f g (a + 1) n (λ c le. e c (apart_from c le is)) in
    let fm : f m ≡ f a = ap f is in let gm : g m ≡ g a = ap g is in
    rw (sum_by-cons f a (range_with_len (a + 1) n), sum_by-cons g a (range_with_len (a + 1) n)) (omega (arith, later, fm, gm)))
    (λ (other : (m == a) ≡ false).
    let here : f a ≡ g a = e a other in
    let ih = sum_changed f g m (a + 1) n e (let ne = apart_eqb m a other in omega (arith, low, ne)) (omega (arith, high)) in
    rw (sum_by-cons f a (range_with_len (a + 1) n), sum_by-cons g a (range_with_len (a + 1) n)) (omega (arith, here, ih)))
    (num_cases m a)
  where
    apart_from : (c : ℕ) → a + 1 ≤ c → m ≡ a → (m == c) ≡ false
    apart_from c le is = eqb_apart m c (λ same. omega (arith, le, is, same))

module _ (p : ProgramShape) (h : ℕ) where
  abbrev pub cost : Ticket → ℕ
  cost t = load_of (text_of p t).body h

  -- the loads of a client's blocks from the k-th on
  abbrev left_of : ℕ → ℕ → ℕ
  left_of c k = sum_by (λ j. load_of (block_at p c j).body h) (range_with_len k (blocks_of p c - k))

  left_step : (c k : ℕ) → k < blocks_of p c → left_of c k ≡ load_of (block_at p c k).body h + left_of c (suc k)
  left_step c k less =
      let n : blocks_of p c - k ≡ suc (blocks_of p c - suc k) = omega (arith, less) in
      let one : k + 1 ≡ suc k = omega arith in
      ap (λ m. sum_by (λ j. load_of (block_at p c j).body h) (range_with_len k m)) n
      ∙ (sum_by-cons (λ j. load_of (block_at p c j).body h) k (range_with_len (k + 1) (blocks_of p c - suc k))
      ∙ ap (λ m. load_of (block_at p c k).body h + sum_by (λ j. load_of (block_at p c j).body h) (range_with_len m (blocks_of p c - suc k))) one)

  -- the loads of all blocks that are to come
  abbrev pub left_after : (ℕ → ℕ) → ℕ
  left_after b = sum_by (λ c. left_of c (b c)) (range_with_len 0 (length p.clients))

  -- a legal order has no more than what is to come
  pub order_fits : (b : ℕ → ℕ) (ts : List Ticket) → LegalFrom p b ts → total cost ts ≤ left_after b
  order_fits b [] legal = omega arith
  order_fits b (t ∷ ts) legal =
      let c = t.client in
      let at : t.index ≡ b c = legal.0 in
      let less : b c < blocks_of p c = let l = legal.1 in omega (arith, at, l) in
      let ih = order_fits (put b c (suc t.index)) ts legal.2 in
      let within : c < length p.clients = no_block_beyond p c (omega (arith, less)) in
      let new : put b c (suc t.index) c ≡ suc (b c) = put_here b c (suc t.index) ∙ ap suc at in
      let all = sum_changed (λ d. left_of d (b d)) (λ d. left_of d (put b c (suc t.index) d)) c 0 (length p.clients)
      (λ d other. ap (left_of d) (sym (put_there b c (suc t.index) d other))) (omega arith) (omega (arith, within)) in
      let changed_one : left_of c (put b c (suc t.index) c) ≡ left_of c (suc (b c)) = ap (left_of c) new in
      let step = left_step c (b c) less in
      let own : load_of (block_at p c (b c)).body h ≡ cost t = ap (λ k. load_of (block_at p c k).body h) (sym at) in
      omega (arith, ih, all, changed_one, step, own)

  pub all_left : left_after (λ _. 0) ≡ room_of p h
  all_left = search (rules, sum_same, left_of)
