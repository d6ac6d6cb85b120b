-- A legal order stays legal when the next ticket of a client comes at its end, and it never has more tickets than a
-- desk has room for. The desk's invariant needs both at each booking. The length is bounded by sharing the tickets out
-- among the eight clients that there can be, each of which has a limited number of blocks.
use Rattle.std.proofs.Common.{◌≡◌, ℕ, zero, suc, ◌+◌, ◌<◌, ◌≤◌, ◌==◌, Bool, true, false, List, [], ◌∷◌, ◌++◌, cond, length, slice_index_or, refl, ap, ◌∙◌, arith, rules}
use Rattle.std.specs.List.{AllByRecursion}
use Rattle.qs_objects.specs.declared.held.Ticket.{Ticket}
use Rattle.qs_program.specs.audit.Program.{ClientShape, ProgramShape, no_client, blocks_of}
use Rattle.qs_meaning.specs.audit.Serial.{LegalFrom, IsLegal}
use Rattle.qs_meaning.specs.audit.Solo.{put}
use Rattle.qs_program.specs.Sound.{IsSound, IsSoundClient}
use Rattle.qs_program.specs.declared.program.Declared.{Declared}
use Rattle.qs_program.specs.audit.Limits.{most_blocks, most_clients}
use Rattle.qs_desk.specs.Limits.{all_bookings}
use Rattle.qs_desk.specs.audit.Tickets.{of_client}

eqb_true : (m n : ℕ) → (m == n) ≡ true → m ≡ n
eqb_true m n e = grind (arith, e)

-- a ticket moves from those that are to come to those that were
counted : (b : ℕ → ℕ) (u : Ticket) (c : ℕ) (ts : List Ticket) → u.index ≡ b u.client
    → b c + length (of_client c (u ∷ ts)) ≡ put b u.client (suc u.index) c + length (of_client c ts)
counted b u c ts at = search (rules, u, eqb_true)

pub legal_more : (p : ProgramShape) (b : ℕ → ℕ) (ts : List Ticket) (t : Ticket) → LegalFrom p b ts
    → t.index ≡ b t.client + length (of_client t.client ts) → t.index < blocks_of p t.client → LegalFrom p b (ts ++ t ∷ [])
legal_more p b [] t legal next some = (omega (arith, next), some, tt)
legal_more p b (u ∷ ts) t legal next some = (legal.0, legal.1, legal_more p (put b u.client (suc u.index)) ts t legal.2 (next ∙ counted b u t.client ts legal.0) some)

within : (p : ProgramShape) (b : ℕ → ℕ) (ts : List Ticket) → LegalFrom p b ts → ((c : ℕ) → b c ≤ blocks_of p c)
    → (c : ℕ) → b c + length (of_client c ts) ≤ blocks_of p c
within p b [] legal low c = omega (arith, low c)
within p b (u ∷ ts) legal low c = omega (arith, counted b u c ts legal.0, within p (put b u.client (suc u.index)) ts legal.2 still c)
  where
    by : (d : ℕ) (x : Bool) → (x ≡ true → u.client ≡ d) → cond x (suc u.index) (b d) ≤ blocks_of p d
    by d true same = let less = legal.1 in omega (arith, less, ap (blocks_of p) (same refl))
    by d false same = low d

    still : (d : ℕ) → put b u.client (suc u.index) d ≤ blocks_of p d
    still d = by d (u.client == d) (eqb_true u.client d)

-- a block has a client
beyond : (cs : List ClientShape) (c i : ℕ) → i < length (slice_index_or cs c no_client).blocks → c < length cs
beyond [] c i less = absurd (omega (arith, less))
beyond (x ∷ cs) zero i less = omega arith
beyond (x ∷ cs) (suc c) i less = omega (arith, beyond cs c i less)

few : (objects : List Declared) (cs : List ClientShape) → AllByRecursion (IsSoundClient objects) cs → (c : ℕ) → length (slice_index_or cs c no_client).blocks ≤ most_blocks
few objects [] all c = omega arith
few objects (x ∷ cs) all zero = all.0.blocks
few objects (x ∷ cs) all (suc c) = few objects cs all.1 c

pub few_blocks : (p : ProgramShape) → IsSound p → (c : ℕ) → blocks_of p c ≤ most_blocks
few_blocks p sound c = few p.objects p.clients sound.each c

abbrev one : Bool → ℕ
one x = cond x 1 0

exactly_one : (k : ℕ) → k < most_clients → one (k == 0) + one (k == 1) + one (k == 2) + one (k == 3) + one (k == 4) + one (k == 5) + one (k == 6) + one (k == 7) ≡ 1
exactly_one v less = search rules

of_one : (c : ℕ) (u : Ticket) (ts : List Ticket) → length (of_client c (u ∷ ts)) ≡ one (u.client == c) + length (of_client c ts)
of_one c u ts = search (rules, u, one)

-- each ticket is of one of the eight places
shared_out : (p : ProgramShape) (b : ℕ → ℕ) (ts : List Ticket) → length p.clients ≤ most_clients → LegalFrom p b ts
    → length ts ≡ length (of_client 0 ts) + length (of_client 1 ts) + length (of_client 2 ts) + length (of_client 3 ts) + length (of_client 4 ts) + length (of_client 5 ts) + length (of_client 6 ts) + length (of_client 7 ts)
shared_out p b [] eight legal = refl
shared_out p b (u ∷ ts) eight legal =
    let l = beyond p.clients u.client u.index legal.1 in
    let o = exactly_one u.client (omega (arith, l, eight)) in
    omega (arith, o, shared_out p (put b u.client (suc u.index)) ts eight legal.2, of_one 0 u ts, of_one 1 u ts, of_one 2 u ts, of_one 3 u ts, of_one 4 u ts, of_one 5 u ts, of_one 6 u ts, of_one 7 u ts)

pub short : (p : ProgramShape) (ts : List Ticket) → IsSound p → IsLegal p ts → length ts ≤ all_bookings
short p ts sound legal = omega (arith, shared_out p (λ _. 0) ts sound.clients legal, at 0, at 1, at 2, at 3, at 4, at 5, at 6, at 7)
  where
    at : (c : ℕ) → length (of_client c ts) ≤ most_blocks
    at c = omega (arith, within p (λ _. 0) ts legal (λ _. omega arith) c, few_blocks p sound c)
