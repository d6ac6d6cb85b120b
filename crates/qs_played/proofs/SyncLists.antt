-- In a sum over objects or tickets, one more at one place adds one to the sum, and the tickets of a legal order may be
-- summed client by client. Both machines keep a sum for each client and show the counts by ticket and object, and these
-- lemmas lead from one to the other. They are shown by induction on the list, or on the order.
use Rattle.std.proofs.Common.{ℕ, List, length, ◌≡◌, ◌<◌, ◌≤◌, zero, suc, ◌+◌, ◌-◌, true, false, ◌==◌, [], ◌∷◌, filter, get_or, refl, sym, ap, ◌∙◌, subst, ⊎_elim, arith, add-one, rules}
use Rattle.qs_played.proofs.Names.{sum_by, range_with_len, AllByRecursion, sum_by-cons, Ticket, same, same_self, ticket_cases, ProgramShape, blocks_of, LegalFrom, put, put_here, put_there, ticket}
use Rattle.qs_played.proofs.Orders.{counts_after, counts_grow}
use Rattle.qs_played.proofs.JournalRooms.{no_block_beyond, sum_changed}

-- what a ticket has sent for all objects, and all tickets of an order
abbrev pub sum_of : ProgramShape → (ℕ → ℕ) → ℕ
sum_of p n = sum_by n (range_with_len 0 (length p.objects))

abbrev pub total_of : ProgramShape → (Ticket → ℕ → ℕ) → List Ticket → ℕ
total_of p n order = sum_by (λ t. sum_of p (n t)) order

pub sum_zero : {X : Type 0} (f : X → ℕ) → ((x : X) → f x ≡ 0) → (xs : List X) → sum_by f xs ≡ 0
sum_zero f none [] = refl
sum_zero f none (x ∷ xs) =
    let here = none x in
    let rest = sum_zero f none xs in
    let all = sum_by-cons f x xs in
    omega (arith, here, rest, all)

-- the same for each number of a range
pub sum_inside : (f g : ℕ → ℕ) (a n : ℕ) → ((i : ℕ) → a ≤ i → i < a + n → f i ≡ g i) → sum_by f (range_with_len a n) ≡ sum_by g (range_with_len a n)
sum_inside f g a zero each = refl
sum_inside f g a (suc n) each =
    let here = each a (omega arith) (omega arith) in
    let rest = sum_inside f g (a + 1) n (λ i low high. each i (omega (arith, low)) (omega (arith, high))) in
    let one = sum_by-cons f a (range_with_len (a + 1) n) in
    let other = sum_by-cons g a (range_with_len (a + 1) n) in
    omega (arith, here, rest, one, other)

-- the same but for one number of a range, which is more by x
pub sum_one : (f g : ℕ → ℕ) (h x n : ℕ) → f h ≡ x + g h → ((i : ℕ) → (h == i) ≡ false → f i ≡ g i) → h < n
    → sum_by f (range_with_len 0 n) ≡ x + sum_by g (range_with_len 0 n)
sum_one f g h x n more others inside = let all = sum_changed f g h 0 n others (omega arith) (omega (arith, inside)) in omega (arith, all, more)

-- one of the first n numbers is more by 1
pub sum_up : (f : ℕ → ℕ) (h n : ℕ) → h < n → sum_by (put f h (suc (f h))) (range_with_len 0 n) ≡ suc (sum_by f (range_with_len 0 n))
sum_up f h n inside =
    let one = sum_one (put f h (suc (f h))) f h 1 n (let here = put_here f h (suc (f h)) in omega (arith, here))
    (λ i out. put_there f h (suc (f h)) i out) inside in
    omega (arith, one)

pub sum_add : {X : Type 0} (f g : X → ℕ) (xs : List X) → sum_by (λ x. f x + g x) xs ≡ sum_by f xs + sum_by g xs
sum_add f g [] = refl
sum_add f g (x ∷ xs) =
    let all = sum_by-cons (λ x. f x + g x) x xs in
    let one = sum_by-cons f x xs in
    let other = sum_by-cons g x xs in
    let rest = sum_add f g xs in
    omega (arith, all, one, other, rest)

sum_at_from : {X : Type 0} (f : X → ℕ) (d : X) (all xs : List X) (a : ℕ) → ((i : ℕ) → get_or all (a + i) d ≡ get_or xs i d)
    → sum_by f xs ≡ sum_by (λ i. f (get_or all i d)) (range_with_len a (length xs))
sum_at_from f d all [] a is = refl
sum_at_from f d all (x ∷ xs) a is =
    let one = sum_by-cons f x xs in
    let other = sum_by-cons (λ i. f (get_or all i d)) a (range_with_len (a + 1) (length xs)) in
    let zero_on : a + 0 ≡ a = omega arith in
    let here : f x ≡ f (get_or all a d) = ap f (sym (is 0) ∙ ap (λ n. get_or all n d) zero_on) in
    let rest = sum_at_from f d all xs (a + 1) (λ i. let on : a + 1 + i ≡ a + suc i = omega arith in ap (λ n. get_or all n d) on ∙ is (suc i)) in
    omega (arith, one, other, here, rest)

-- a list by its numbers
pub sum_at : {X : Type 0} (f : X → ℕ) (d : X) (xs : List X) → sum_by f xs ≡ sum_by (λ i. f (get_or xs i d)) (range_with_len 0 (length xs))
sum_at f d xs = sum_at_from f d xs xs 0 (λ i. let z : 0 + i ≡ i = omega arith in ap (λ n. get_or xs n d) z)

-- a ticket is more by 1, as often as it comes
pub sum_tickets : (f g : Ticket → ℕ) (t : Ticket) → f t ≡ suc (g t) → ((u : Ticket) → same t u ≡ false → f u ≡ g u)
    → (ts : List Ticket) → sum_by f ts ≡ length (filter (same t) ts) + sum_by g ts
sum_tickets f g t more others [] = omega arith
sum_tickets f g t more others (u ∷ us) =
    let new = sum_by-cons f u us in
    let old = sum_by-cons g u us in
    let rest = sum_tickets f g t more others us in
    ⊎_elim
    (λ (is : t ≡ u).
    let here : f u ≡ suc (g u) = subst (λ u. f u ≡ suc (g u)) is more in
    let first : same t u ≡ true = subst (λ u. same t u ≡ true) is (same_self t) in
    rw first (omega (arith, new, old, rest, here)))
    (λ (other : same t u ≡ false). let here = others u other in rw other (omega (arith, new, old, rest, here)))
    (ticket_cases t u)

-- each ticket of a legal order is of a block of the program
pub legal_blocks : (p : ProgramShape) (n : ℕ → ℕ) (ts : List Ticket) → LegalFrom p n ts → AllByRecursion (λ (t : Ticket). t.index < blocks_of p t.client) ts
legal_blocks p n [] legal = tt
legal_blocks p n (t ∷ ts) legal = (legal.1, legal_blocks p (put n t.client (suc t.index)) ts legal.2)

-- a client's tickets from number a up to b
abbrev pub sum_of_client : (Ticket → ℕ) → (c a b : ℕ) → ℕ
sum_of_client f c a b = sum_by (λ k. f (ticket c k)) (range_with_len a (b - a))

first_ticket : (f : Ticket → ℕ) (c a b : ℕ) → suc a ≤ b → sum_of_client f c a b ≡ f (ticket c a) + sum_of_client f c (suc a) b
first_ticket f c a b less =
    let long : b - a ≡ suc (b - suc a) = omega (arith, less) in
    ap (λ n. sum_by (λ k. f (ticket c k)) (range_with_len a n)) long
    ∙ (sum_by-cons (λ k. f (ticket c k)) a (range_with_len (a + 1) (b - suc a))
    ∙ ap (λ i. f (ticket c a) + sum_by (λ k. f (ticket c k)) (range_with_len i (b - suc a))) (add-one a))

-- a legal order has each client's tickets, one after another
pub sum_legal : (p : ProgramShape) (f : Ticket → ℕ) (n : ℕ → ℕ) (ts : List Ticket) → LegalFrom p n ts
    → sum_by f ts ≡ sum_by (λ c. sum_of_client f c (n c) (counts_after n ts c)) (range_with_len 0 (length p.clients))
sum_legal p f n [] legal =
    sym (sum_zero (λ c. sum_of_client f c (n c) (n c))
    (λ c. let none : n c - n c ≡ 0 = omega arith in ap (λ m. sum_by (λ k. f (ticket c k)) (range_with_len (n c) m)) none)
    (range_with_len 0 (length p.clients)))
sum_legal p f n (t ∷ ts) legal =
    let next : ℕ → ℕ = put n t.client (suc t.index) in
    let after : ℕ → ℕ = counts_after next ts in
    let here : next t.client ≡ suc t.index = put_here n t.client (suc t.index) in
    let grown = counts_grow p next ts t.client legal.2 in
    let more : sum_of_client f t.client (n t.client) (after t.client) ≡ f t + sum_of_client f t.client (next t.client) (after t.client) =
    ap (λ a. sum_of_client f t.client a (after t.client)) (sym legal.0)
    ∙ (first_ticket f t.client t.index (after t.client) (omega (arith, here, grown))
    ∙ ap (λ a. f t + sum_of_client f t.client a (after t.client)) (sym here)) in
    let own = no_block_beyond p t.client (let some = legal.1 in omega (arith, some)) in
    let all = sum_one (λ c. sum_of_client f c (n c) (after c)) (λ c. sum_of_client f c (next c) (after c)) t.client (f t) (length p.clients) more
    (λ c out. ap (λ a. sum_of_client f c a (after c)) (sym (put_there n t.client (suc t.index) c out))) own in
    let rest = sum_legal p f next ts legal.2 in
    let one = sum_by-cons f t ts in
    omega (arith, all, rest, one)
