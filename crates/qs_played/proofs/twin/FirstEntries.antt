-- A journal that is read entry by entry tells which state stands before a ticket's first entry, or that the ticket has
-- none. The loop of `state_before` replays a journal in this way, and `twin` compares blocks by these states. At each
-- place the entry is the ticket's own, and the state is found, or the search goes on from the state after it.
use Rattle.std.proofs.Common.{◌≡◌, ◌<◌, ◌≤◌, ◌⊎◌, ◌+◌, ℕ, zero, suc, List, [], ◌∷◌, length, get_or, drop, drop-cons, Option, Some, None, true, false, true≢false, sym, subst, arith, rules}
use Rattle.qs_played.proofs.Names.{drop_all, get_or_past, State, after, same, Entry, Ticket, not_same, same_apart, same_self, ticket_cases, IsLegal, LegalFrom, put, ticket_at, IsFitting, Played, ticket, IsReserved, IsStart}
use Rattle.qs_program.specs.audit.Program.{ProgramShape, blocks_of}

less_or : (m n : ℕ) → (m < n) ⊎ (n ≤ m)
less_or m n = search rules

pub start_here : (s : State) (t : Ticket) (x : Entry) (xs : List Entry) → t ≡ x.ticket → IsStart s t (x ∷ xs) (Some s)
start_here s t x xs is = search (rules, same_self)

pub start_later : (s : State) (t : Ticket) (x : Entry) (xs : List Entry) → same t x.ticket ≡ false → (found : Option State)
    → IsStart (after s x.request) t xs found → IsStart s t (x ∷ xs) found
start_later s t x xs other v k = search (rules, same_apart, k)

-- the same in a journal from a place on
pub here_at : (s : State) (t : Ticket) (j : List Entry) (i : ℕ) (x : Entry) → i < length j → x ≡ get_or j i x → same x.ticket t ≡ true
    → IsStart s t (drop i j) (Some s)
here_at s t j i x less is mine = search (rules, true≢false, ticket_cases, drop-cons, drop, start_here)

pub later_at : (s : State) (t : Ticket) (j : List Entry) (i : ℕ) (x : Entry) → i < length j → x ≡ get_or j i x → same x.ticket t ≡ false
    → (z : State) → z ≡ after s x.request → (found : Option State) → IsStart z t (drop (i + 1) j) found → IsStart s t (drop i j) found
later_at s t j i x less is differ z ran found later = search (rules, not_same, same_apart, drop-cons, drop, start_later)

pub none_at : (s : State) (t : Ticket) (j : List Entry) (i : ℕ) → length j ≤ i → IsStart s t (drop i j) None
none_at s t j i past = subst (λ l. IsStart s t l None) (sym (drop_all i j past)) (λ h. h)

-- each ticket of a legal order names a block of the program
legal_block : (p : ProgramShape) (begun : ℕ → ℕ) (ts : List Ticket) (i : ℕ) (d : Ticket) → LegalFrom p begun ts → i < length ts
    → (get_or ts i d).index < blocks_of p (get_or ts i d).client
legal_block p begun [] i d legal less = absurd (omega (arith, less))
legal_block p begun (t ∷ ts) zero d legal less = legal.1
legal_block p begun (t ∷ ts) (suc i) d legal less = legal_block p (put begun t.client (suc t.index)) ts i d legal.2 (omega (arith, less))

-- a client with blocks is the program's
pub client_of_block : (p : ProgramShape) (c k : ℕ) → k < blocks_of p c → c < length p.clients
client_of_block p c k less = search (rules, get_or_past, k, less_or)

pub reserved_at : (p : ProgramShape) (r : Played) (i : ℕ) → IsFitting p r → IsLegal p r.order → i < length r.order → IsReserved p r i
reserved_at p r i fits legal less =
    let block = legal_block p (λ _. 0) r.order i (ticket 0 0) legal less in
    record { fits = fits; place = less; client = client_of_block p (ticket_at r i).client (ticket_at r i).index block; block = block }
