-- Beside what the headline reaches (`audit/Reduced.antt`): what else contracts and proofs use.
use Rattle.std.specs.Prelude.{◌≡◌, ◌<◌, ◌↔◌, ◌++◌, ℕ, zero, suc, Bool, true, false, ◌==◌, ◌&&◌, ◌||◌, if◌then◌else◌, List, [], ◌∷◌, length, drop, nat_lt}
use Rattle.std.specs.List.{list_any}
use Rattle.qs_objects.specs.declared.held.Ticket.{Ticket}
use Rattle.qs_program.specs.audit.Program.{BlockShape, ProgramShape, block_at, blocks_of, client_at}
use Rattle.qs_program.specs.audit.Sound.{is_in}
use Rattle.qs_program.specs.Sound.{IsSound}
use Rattle.qs_meaning.specs.audit.Configurations.{Configuration, IsComplete, configuration_after, first_configuration, one_block_on}
use Rattle.qs_meaning.specs.Configurations.{OrderOutcome, outcome_of}
use Rattle.qs_meaning.specs.audit.Reduced.{Counts}

-- a set of clients
abbrev pub Clients : Type 0
Clients = ℕ → Bool

-- some number below n is in the set
abbrev pub some_below : ℕ → (ℕ → Bool) → Bool
some_below zero set = false
some_below (suc n) set = some_below n set || set n

-- how many numbers below n are in the set
abbrev pub many_below : ℕ → (ℕ → Bool) → ℕ
many_below zero set = 0
many_below (suc n) set = if set n then suc (many_below n set) else many_below n set

-- whether a block reserves an object
abbrev pub block_reserves : ℕ → BlockShape → Bool
block_reserves h b = is_in b.reserved h

-- whether one of the blocks that a client has left reserves an object
abbrev pub still_reserves : ProgramShape → Counts → ℕ → ℕ → Bool
still_reserves p begun c h = list_any (block_reserves h) (drop (begun c) (client_at p c).blocks)

-- whether a client d has a block left that shares an object with the next block of c
abbrev pub comes_in : ProgramShape → Counts → ℕ → ℕ → Bool
comes_in p begun c d = list_any (still_reserves p begun d) (block_at p c (begun c)).reserved

-- a set and all who come in the way of its members
abbrev pub wider : ProgramShape → Counts → Clients → Clients
wider p begun set d = set d || some_below (length p.clients) (λ c. set c && comes_in p begun c d)

abbrev pub widened : ProgramShape → Counts → ℕ → Clients → Clients
widened p begun zero set = set
widened p begun (suc n) set = wider p begun (widened p begun n set)

-- grown from one client: after as many rounds as there are clients nobody comes to it any more
abbrev pub group_of : ProgramShape → Counts → ℕ → Clients
group_of p begun c = widened p begun (length p.clients) (λ d. c == d)

abbrev pub has_block_left : ProgramShape → Counts → ℕ → Bool
has_block_left p begun c = nat_lt (begun c) (blocks_of p c)

abbrev pub size_of_set : ProgramShape → Clients → ℕ
size_of_set p set = many_below (length p.clients) set

-- one set, or another where that is smaller or the one is empty
abbrev pub smaller : ProgramShape → Clients → Clients → Clients
smaller p one other = if size_of_set p one == 0 || nat_lt (size_of_set p other) (size_of_set p one) then other else one

-- of the sets grown from the clients below n that have a block left, the first of the smallest
abbrev pub first_smallest : ProgramShape → Counts → ℕ → Clients
first_smallest p begun zero = λ _. false
first_smallest p begun (suc n) =
    let best = first_smallest p begun n in
    if has_block_left p begun n then smaller p best (group_of p begun n) else best

-- who goes on, by how many blocks each client has begun
abbrev pub goes_on : ProgramShape → Counts → Clients
goes_on p begun = first_smallest p begun (length p.clients)

-- each next client of an order is one of those who go on
abbrev pub IsReducedFrom : ProgramShape → Configuration → List Ticket → Type 0
IsReducedFrom p g [] = Unit {0}
IsReducedFrom p g (t ∷ ts) = (goes_on p g.begun t.client ≡ true) × IsReducedFrom p (one_block_on p t.client g) ts

abbrev pub IsReduced : ProgramShape → List Ticket → Type 0
IsReduced p order = IsReducedFrom p (first_configuration p) order

-- all members have a block left, and nobody else has a block left that shares an object with the next block of one of
-- them
pub record IsUndisturbed (p : ProgramShape) (begun : Counts) (set : Clients) : Type 0 where
  pub left : (c : ℕ) → set c ≡ true → begun c < blocks_of p c
  pub apart : (c d h : ℕ) → set c ≡ true → set d ≡ false → is_in (block_at p c (begun c)).reserved h ≡ true
      → still_reserves p begun d h ≡ false

-- Nobody disturbs those who go on, and somebody goes on wherever somebody has a block left.
pub record GoingOn (p : ProgramShape) (begun : Counts) : Type 0 where
  pub undisturbed : IsUndisturbed p begun (goes_on p begun)
  pub some : (c : ℕ) → begun c < blocks_of p c → (d : ℕ) × (goes_on p begun d ≡ true)

abbrev pub SomeGoOn : Type 0
SomeGoOn = (p : ProgramShape) (begun : Counts) → GoingOn p begun

-- the next blocks of two clients reserve no object both
abbrev pub AreNextApart : ProgramShape → Counts → ℕ → ℕ → Type 0
AreNextApart p begun c d =
    (h : ℕ) → is_in (block_at p c (begun c)).reserved h ≡ true → is_in (block_at p d (begun d)).reserved h ≡ false

-- Neighbours of different clients that share no object may be swapped.
abbrev pub NeighboursSwap : Type 0
NeighboursSwap =
    (p : ProgramShape) → IsSound p → (g : Configuration) (c d : ℕ) → (c == d) ≡ false → AreNextApart p g.begun c d
    → one_block_on p d (one_block_on p c g) ≡ one_block_on p c (one_block_on p d g)

-- a reduced order that is complete and comes to the same
pub record HasReduced (p : ProgramShape) (order : List Ticket) : Type 0 where
  pub reduced : List Ticket
  pub is_complete : IsComplete p reduced
  pub is_reduced : IsReduced p reduced
  pub same : outcome_of p reduced ≡ outcome_of p order

-- Every complete order comes to what a reduced one comes to.
abbrev pub ReducedOrdersSuffice : Type 0
ReducedOrdersSuffice = (p : ProgramShape) → IsSound p → (order : List Ticket) → IsComplete p order → HasReduced p order

-- what some complete order that begins with a front comes to
abbrev pub IsOutcomeAfter : ProgramShape → List Ticket → OrderOutcome → Type 0
IsOutcomeAfter p front x = (rest : List Ticket) × IsComplete p (front ++ rest) × (outcome_of p (front ++ rest) ≡ x)

-- a front and the next block of a client
abbrev pub with_next : ProgramShape → List Ticket → ℕ → List Ticket
with_next p front c = front ++ record { client = c; index = (configuration_after p front).begun c } ∷ []

-- one of those who go on after the front, and what can come after its next block
pub record GoesOnTo (p : ProgramShape) (front : List Ticket) (x : OrderOutcome) : Type 0 where
  pub client : ℕ
  pub goes : goes_on p (configuration_after p front).begun client ≡ true
  pub outcome : IsOutcomeAfter p (with_next p front client) x

-- Where a block is left after a front, the outcomes after it are all those after it and the next block of one who goes
-- on.
abbrev pub OutcomesAreUnion : Type 0
OutcomesAreUnion =
    (p : ProgramShape) → IsSound p → (front : List Ticket) (c : ℕ)
    → (configuration_after p front).begun c < blocks_of p c
    → (x : OrderOutcome) → IsOutcomeAfter p front x ↔ GoesOnTo p front x
