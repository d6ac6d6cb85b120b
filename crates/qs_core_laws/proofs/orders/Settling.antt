-- A client that settles neither gets nor gives an object, and opens or closes no chunk: so how it stands to each object
-- stays the same. And what is left of its block is bounded: how many steps it will take, by the depth of the rest of
-- the tree, by what goes home first, and by the objects that it leaves at the end. Both go by induction on the tree.
use Rattle.std.proofs.Common.{◌≡◌, ◌<◌, ◌≤◌, ◌==◌, ◌+◌, ◌*◌, ◌&&◌, ◌||◌, ℕ, suc, Bool, true, false, if◌then◌else◌, is_some, ℤ, List, ◌∷◌, length, Option, Some, None, refl, arith, rules}
use Rattle.qs_played.proofs.Names.{HeldState, run_one, Ticket, Request, num_cases, put, value_of, put_here, put_there, is_in, Locals}
use Rattle.qs_graph.specs.audit.Synced.{Synced, Done, Call, Sync, Query}
use Rattle.qs_client.specs.audit.rules.Client.{Client, ClientStage, Settings, awaits, between, call, end_block, full, leaves, query, runs, set_held, set_stage, settle, stop_at}
use Rattle.qs_core_laws.proofs.orders.TreeDepths.{IsWithinDepth}

-- how a client stands to an object: it sends commands, has asked for the object, holds it, or has left it
pub data Stance : Type 0 where
  Sends : Stance
  Asks : Stance
  Holds : Stance
  Gone : Stance

abbrev pub hand : Bool → Stance
hand true = Holds
hand false = Sends

-- of an object that its block reserves, by its stage
abbrev pub stance_at : Client → ClientStage → ℕ → Stance
stance_at m (between l) g = Gone
stance_at m (awaits h rest) g = if h == g then Asks else hand (is_some (m.held g))
stance_at m (leaves h hs l) g = if is_in (h ∷ hs) g then hand (is_some (m.held g)) else Gone
stance_at m _ g = hand (is_some (m.held g))

-- one step more where the object goes home, or a chunk goes
abbrev pub busy : Client → ℕ → ℕ
busy m h = if is_some (m.held h) || is_some (m.chunk h) then 1 else 0

pub busy_few : (m : Client) (h : ℕ) → busy m h ≤ 1
busy_few m h = search rules

-- the steps of a client before it goes on in this tree
abbrev pub before_rest : Client → Synced → ℕ
before_rest m (Call r next) = suc (busy m r.object)
before_rest m (Sync h next) = suc (busy m h)
before_rest m _ = 0

-- a block that reserves so many objects is over within n steps of its client
abbrev pub IsLeft : ℕ → ℕ → Client → ClientStage → Type 0
IsLeft many n m (between l) = Unit {0}
IsLeft many n m (runs rest) = (d : ℕ) × IsWithinDepth d rest × (3 * d + 2 * many + before_rest m rest ≤ n)
IsLeft many n m (full h rest) = (is_some (m.chunk h) ≡ true) × (d : ℕ) × IsWithinDepth d rest × (3 * d + 2 * many + 3 ≤ n)
IsLeft many n m (awaits h rest) = (d : ℕ) × IsWithinDepth d rest × (3 * d + 2 * many + 3 ≤ n)
IsLeft many n m (leaves h hs l) = 2 * length hs + 1 + busy m h ≤ n

pub left_more : (many n k : ℕ) (m : Client) (g : ClientStage) → n ≤ k → IsLeft many n m g → IsLeft many k m g
left_more many n k m g le left = search rules

-- a client that has settled from another, in a block that reserves these objects
pub record IsSettled (reserved : List ℕ) (n : ℕ) (m r : Client) : Type 0 where
  pub begun : r.begun ≡ m.begun
  pub held : (g : ℕ) → is_some (r.held g) ≡ is_some (m.held g)
  pub chunks : (g : ℕ) → is_some (r.chunk g) ≡ is_some (m.chunk g)
  pub stance : (g : ℕ) → is_in reserved g ≡ true → stance_at r r.stage g ≡ hand (is_some (r.held g))
  pub left : IsLeft (length reserved) n r r.stage

-- from a client with the same hands
settled_from : (reserved : List ℕ) (n k : ℕ) (m other r : Client) → n ≤ k → other.begun ≡ m.begun → ((g : ℕ) → is_some (other.held g) ≡ is_some (m.held g))
    → ((g : ℕ) → is_some (other.chunk g) ≡ is_some (m.chunk g)) → IsSettled reserved n other r → IsSettled reserved k m r
settled_from reserved n k m other r le begun held opened s = search (rules, left_more)

-- what stands in place of another stays or goes with it
same_some : {A : Type 0} (f : ℕ → Option A) (h : ℕ) (x y : A) → f h ≡ Some x → (g : ℕ) → is_some (put f h (Some y) g) ≡ is_some (f g)
same_some f h x y e g = search (rules, put_here, put_there, num_cases)

module _ (settings : Settings) (ticket : Ticket) (reserved : List ℕ) where
  -- a client that stops here
  pub stopped : (n : ℕ) (m : Client) (g : ClientStage) → ((h : ℕ) → is_in reserved h ≡ true → stance_at (set_stage m g) g h ≡ hand (is_some (m.held h)))
      → IsLeft (length reserved) n (set_stage m g) g → IsSettled reserved n m (set_stage m g)
  stopped n m g stance left = record { begun = refl; held = λ h. refl; chunks = λ h. refl; stance = stance; left = left }

  -- at the end of its block
  ended : (d : ℕ) (m : Client) (l : Locals) (names : List ℕ) → reserved ≡ names
      → IsSettled reserved (3 * d + 2 * length reserved + 2) m (end_block settings ticket reserved m names l).client
  ended d m l names is = search (rules, stopped, busy_few)

  -- a command goes into an open chunk
  pub called : (d : ℕ) (m : Client) (r : Request) (next : Synced) (rs : List Request) → IsWithinDepth d next → m.chunk r.object ≡ Some rs
      → ((other : Client) → IsSettled reserved (3 * d + 2 * length reserved + 2) other (settle settings ticket reserved next other).client)
      → IsSettled reserved (3 * d + 2 * length reserved + 3) m (call settings ticket reserved m r next (λ m. settle settings ticket reserved next m) None (Some rs)).client
  called d m r next rs deep is ih = search (rules, same_some, settled_from, stopped, put_here)

  abbrev Settles : ℕ → Synced → Type 0
  Settles d tree = (m : Client) → IsSettled reserved (3 * d + 2 * length reserved + 2) m (settle settings ticket reserved tree m).client

  -- at a command
  at_call : (d k : ℕ) (r : Request) (next : Synced) → k < d → IsWithinDepth k next → Settles k next → Settles d (Call r next)
  at_call d k r next less deep ih m = by_hand (m.held r.object) (m.chunk r.object) refl
    where
      by_hand : (x : Option HeldState) (c : Option (List Request)) → m.chunk r.object ≡ c
          → IsSettled reserved (3 * d + 2 * length reserved + 2) m (call settings ticket reserved m r next (λ m. settle settings ticket reserved next m) x c).client
      by_hand None (Some rs) e =
          settled_from reserved (3 * k + 2 * length reserved + 3) (3 * d + 2 * length reserved + 2) m m _ (omega (arith, less)) refl (λ g. refl) (λ g. refl)
          (called k m r next rs deep e ih)
      by_hand _ _ e = stopped (3 * d + 2 * length reserved + 2) m (runs (Call r next)) (λ h there. refl)
          (d, (k, less, deep), let few = busy_few m r.object in omega (arith, few))

  -- at a synchronisation
  at_sync : (d k h : ℕ) (next : Synced) → k < d → IsWithinDepth k next → Settles k next → Settles d (Sync h next)
  at_sync d k h next less deep ih m = by_skip (settings.dynamic && is_some (m.held h))
    where
      by_skip : (b : Bool) → IsSettled reserved (3 * d + 2 * length reserved + 2) m
          (if b then settle settings ticket reserved next m else stop_at m (runs (Sync h next))).client
      by_skip true =
          settled_from reserved (3 * k + 2 * length reserved + 2) (3 * d + 2 * length reserved + 2) m m _ (omega (arith, less)) refl (λ g. refl) (λ g. refl) (ih m)
      by_skip false = stopped (3 * d + 2 * length reserved + 2) m (runs (Sync h next)) (λ h there. refl)
          (d, (k, less, deep), let few = busy_few m h in omega (arith, few))

  -- at a query
  at_query : (d k : ℕ) (r : Request) (next : ℤ → Synced) → k < d → ((v : ℤ) → IsWithinDepth k (next v)) → ((v : ℤ) → Settles k (next v)) → Settles d (Query r next)
  at_query d k r next less deep ih m = by_hand (m.held r.object) refl
    where
      by_hand : (x : Option HeldState) → m.held r.object ≡ x
          → IsSettled reserved (3 * d + 2 * length reserved + 2) m (query settings ticket reserved m r next (λ v m. settle settings ticket reserved (next v) m) x).client
      by_hand (Some x) e =
          let o = run_one x ticket r in
          settled_from reserved (3 * k + 2 * length reserved + 2) (3 * d + 2 * length reserved + 2) m (set_held m r.object (Some o.0)) _ (omega (arith, less)) refl
          (same_some m.held r.object x o.0 e) (λ g. refl)
          (ih (value_of o.1) (set_held m r.object (Some o.0)))
      by_hand None e = stopped (3 * d + 2 * length reserved + 2) m (runs (Query r next)) (λ h there. refl) (d, (k, less, deep), omega arith)

  pub settled : (d : ℕ) (tree : Synced) → IsWithinDepth d tree → Settles d tree
  settled d (Done l) deep = λ m. ended d m l reserved refl
  settled d (Call r next) (k, less, deep) = at_call d k r next less deep (settled k next deep)
  settled d (Sync h next) (k, less, deep) = at_sync d k h next less deep (settled k next deep)
  settled d (Query r next) (k, less, deep) = at_query d k r next less deep (λ v. settled k (next v) (deep v))
