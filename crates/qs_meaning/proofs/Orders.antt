-- A legal order leads to the configuration that its serial run describes, and it is complete exactly where it leaves no
-- client a block. The search for all outcomes goes by configurations alone, and this is what ties it to orders. Both go
-- by induction on the order: a legal ticket names its client's next block, so a client's tickets are those from its
-- count of begun blocks up to its count at the end.
use Rattle.std.proofs.Common.{◌≡◌, ℕ, suc, ◌<◌, ◌≤◌, arith, if◌then◌else◌, ◌==◌, ◌&&◌, List, [], ◌∷◌, ◌++◌, length, filter, refl, sym, ap, subst}
use Rattle.qs_meaning.proofs.Common.{block_at, blocks_of, nat_tests, ProgramShape, same, Ticket}
use Rattle.qs_meaning.specs.audit.Configurations.{Configuration, IsComplete, configuration_from, first_configuration, one_block_on}
use Rattle.qs_meaning.specs.Configurations.{ConfigurationsFollowOrders, CompleteOrdersLeaveNone, OrderOutcome, outcome_in}
use Rattle.qs_meaning.specs.audit.Serial.{LegalFrom}
use Rattle.qs_meaning.specs.Serial.{Serial, serial_from}
use Rattle.qs_meaning.specs.audit.Solo.{put, solo}

-- the counts after a legal ticket, by the ticket's number or by the client's count
put_same : (n : ℕ → ℕ) (t : Ticket) → t.index ≡ n t.client → put n t.client (suc t.index) ≡ put n t.client (suc (n t.client))
put_same n t e = ap (λ k. put n t.client (suc k)) e

-- what is left of a legal order is legal from the configuration that its first ticket leads to
pub legal_on : (p : ProgramShape) (g : Configuration) (t : Ticket) (ts : List Ticket) → LegalFrom p g.begun (t ∷ ts) → LegalFrom p (one_block_on p t.client g).begun ts
legal_on p g t ts legal = subst (λ n. LegalFrom p n ts) (put_same g.begun t legal.0) legal.2

outcome_at : Serial → OrderOutcome
outcome_at s = record { locals = s.locals; states = s.states }

follows_from : (p : ProgramShape) (g : Configuration) (ts : List Ticket) → LegalFrom p g.begun ts
    → outcome_in (configuration_from p g ts) ≡ outcome_at (serial_from p g.locals g.states ts)
unfolding outcome_at
follows_from p g [] legal = refl
follows_from p g (t ∷ ts) legal =
    let P : ℕ → Type 0 = λ k. outcome_in (configuration_from p (one_block_on p t.client g) ts)
    ≡ outcome_at (serial_from p (put g.locals t.client (solo (block_at p t.client k).body (g.locals t.client) g.states).locals)
    (solo (block_at p t.client k).body (g.locals t.client) g.states).states ts) in
    subst P (sym legal.0) (follows_from p (one_block_on p t.client g) ts (legal_on p g t ts legal))

pub configurations_follow_orders : ConfigurationsFollowOrders
unfolding outcome_at
configurations_follow_orders p order legal = follows_from p (first_configuration p) order legal

-- how often a ticket stands in an order
abbrev times : Ticket → List Ticket → ℕ
times t order = length (filter (same t) order)

-- where a client's count begins and ends, and how often its tickets stand in between
record Counts (p : ProgramShape) (g : Configuration) (ts : List Ticket) (t : Ticket) : Type 0 where
  pub grows : g.begun t.client ≤ (configuration_from p g ts).begun t.client
  pub below : t.index < g.begun t.client → times t ts ≡ 0
  pub inside : g.begun t.client ≤ t.index → t.index < (configuration_from p g ts).begun t.client → times t ts ≡ 1
  pub past : (configuration_from p g ts).begun t.client ≤ t.index → times t ts ≡ 0

times_more : (t u : Ticket) (ts : List Ticket) → times t (u ∷ ts) ≡ (if same t u then suc (times t ts) else times t ts)
times_more t u ts = grind arith

-- what one ticket more does to the count of one: of clients a and b, with the indexes i and j, where the count of the
-- first is n before and m begins behind
one_counted : (a b i j n k end m : ℕ) → (a ≡ b → n ≡ k) → j ≡ k → (if b == a then suc k else n) ≤ end → (i < (if b == a then suc k else n) → m ≡ 0)
    → ((if b == a then suc k else n) ≤ i → i < end → m ≡ 1) → (end ≤ i → m ≡ 0) → (all : ℕ) → all ≡ (if (a == b) && (i == j) then suc m else m)
    → (n ≤ end) × (i < n → all ≡ 0) × (n ≤ i → i < end → all ≡ 1) × (end ≤ i → all ≡ 0)
one_counted a b i j n k end m one at grows below inside past all is = grind (arith, nat_tests)

counts_more : (p : ProgramShape) (g : Configuration) (u : Ticket) (ts : List Ticket) (t : Ticket) → LegalFrom p g.begun (u ∷ ts)
    → Counts p (one_block_on p u.client g) ts t → Counts p g (u ∷ ts) t
counts_more p g u ts t legal rest =
    let all =
    one_counted t.client u.client t.index u.index (g.begun t.client) (g.begun u.client) ((configuration_from p g (u ∷ ts)).begun t.client) (times t ts) (ap g.begun) legal.0
    rest.grows rest.below rest.inside rest.past (times t (u ∷ ts)) (times_more t u ts) in
    record { grows = all.0; below = all.1; inside = all.2; past = all.3 }

counts : (p : ProgramShape) (g : Configuration) (ts : List Ticket) (t : Ticket) → LegalFrom p g.begun ts → Counts p g ts t
counts p g [] t legal = record {
  grows = omega arith;
  below = λ h. refl;
  inside = λ h k. absurd (omega (arith, h, k));
  past = λ h. refl;
}
counts p g (u ∷ ts) t legal = counts_more p g u ts t legal (counts p (one_block_on p u.client g) ts t (legal_on p g u ts legal))

-- no client of a legal order begins more blocks than it has
block_within : (p : ProgramShape) (g : Configuration) (t : Ticket) (c : ℕ) → t.index ≡ g.begun t.client → t.index < blocks_of p t.client → g.begun c ≤ blocks_of p c
    → put g.begun t.client (suc (g.begun t.client)) c ≤ blocks_of p c
block_within p g t c e l h = grind (arith, nat_tests)

pub begun_within : (p : ProgramShape) (g : Configuration) (ts : List Ticket) (c : ℕ) → LegalFrom p g.begun ts → g.begun c ≤ blocks_of p c → (configuration_from p g ts).begun c ≤ blocks_of p c
begun_within p g [] c legal h = h
begun_within p g (t ∷ ts) c legal h = begun_within p (one_block_on p t.client g) ts c (legal_on p g t ts legal) (block_within p g t c legal.0 legal.1 h)

pub complete_orders_leave_none : CompleteOrdersLeaveNone
complete_orders_leave_none p order legal = (whole, complete)
  where
    whole : IsComplete p order → (c : ℕ) → (configuration_from p (first_configuration p) order).begun c ≡ blocks_of p c
    whole is c =
        let within : (configuration_from p (first_configuration p) order).begun c ≤ blocks_of p c = begun_within p (first_configuration p) order c legal (omega arith) in
        let t : Ticket = record { client = c; index = (configuration_from p (first_configuration p) order).begun c } in
        let none : times t order ≡ 0 = (counts p (first_configuration p) order t legal).past (omega arith) in
        let differs : (configuration_from p (first_configuration p) order).begun c < blocks_of p c → ⊥ = λ less. (let one : times t order ≡ 1 = is.once t less in omega (arith, one, none)) in
        omega (arith, within, differs)

    complete : ((c : ℕ) → (configuration_from p (first_configuration p) order).begun c ≡ blocks_of p c) → IsComplete p order
    complete ends = record {
      legal = legal;
      once = λ t less. (counts p (first_configuration p) order t legal).inside (omega arith) (let e = ends t.client in omega (arith, e, less));
    }

-- ---- an order in two parts

pub configuration-append : (p : ProgramShape) (g : Configuration) (ts us : List Ticket) → configuration_from p g (ts ++ us) ≡ configuration_from p (configuration_from p g ts) us
configuration-append p g [] us = refl
configuration-append p g (t ∷ ts) us = configuration-append p (one_block_on p t.client g) ts us

pub legal-rest : (p : ProgramShape) (g : Configuration) (ts us : List Ticket) → LegalFrom p g.begun (ts ++ us) → LegalFrom p (configuration_from p g ts).begun us
legal-rest p g [] us legal = legal
legal-rest p g (t ∷ ts) us legal = legal-rest p (one_block_on p t.client g) ts us (legal_on p g t (ts ++ us) legal)

-- a legal ticket, and what is legal after it
pub legal_first : (p : ProgramShape) (g : Configuration) (t : Ticket) (ts : List Ticket) → t.index ≡ g.begun t.client → t.index < blocks_of p t.client
    → LegalFrom p (one_block_on p t.client g).begun ts → LegalFrom p g.begun (t ∷ ts)
legal_first p g t ts is less rest = (is, less, subst (λ n. LegalFrom p n ts) (sym (put_same g.begun t is)) rest)

pub legal-front : (p : ProgramShape) (g : Configuration) (ts us : List Ticket) → LegalFrom p g.begun (ts ++ us) → LegalFrom p g.begun ts
legal-front p g [] us legal = tt
legal-front p g (t ∷ ts) us legal = legal_first p g t ts legal.0 legal.1 (legal-front p (one_block_on p t.client g) ts us (legal_on p g t (ts ++ us) legal))

pub legal-join : (p : ProgramShape) (g : Configuration) (ts us : List Ticket) → LegalFrom p g.begun ts → LegalFrom p (configuration_from p g ts).begun us → LegalFrom p g.begun (ts ++ us)
legal-join p g [] us legal rest = rest
legal-join p g (t ∷ ts) us legal rest = legal_first p g t (ts ++ us) legal.0 legal.1 (legal-join p (one_block_on p t.client g) ts us (legal_on p g t ts legal) rest)
