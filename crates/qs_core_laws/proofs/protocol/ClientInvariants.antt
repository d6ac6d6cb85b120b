-- This file defines how a client stands in its block (`PlaceOk`, by its stage): what is left of its tree, what it has
-- in hand, and what its lanes say of its trace. The proofs about clients, of the optimised machine and of threads, keep
-- this with each act. For each object, all that was sent and got is a lane as its client sees it, which ends where the
-- client stands to the object now.
use Rattle.std.proofs.Common.{◌≡◌, ◌⊎◌, ℕ, Bool, true, false, if◌then◌else◌, ◌==◌, is_some, List, [], ◌∷◌, Option, Some, None}
use Rattle.qs_played.proofs.Names.{HeldState, part, Ticket, Request, reserves, ProgramShape, text_of, put, is_in, Locals, BlockRecord}
use Rattle.qs_meaning.specs.audit.Interaction as tree
use Rattle.qs_core_laws.proofs.Names.{Synced, Call, Sync, without_syncs, IsSoundSynced, IsOnReserved, HasNone, IsOpenRecord, apart_from, ObjectStance, sends, asks, holds, ClientLane, Parcel, Client, ClientStage, between, runs, full, awaits, leaves}

-- how a client stands to an object, by what it has in hand
abbrev pub in_hand : Option HeldState → Option (List Request) → ObjectStance
in_hand (Some x) c = holds x
in_hand None (Some rs) = sends rs
in_hand None None = sends []

abbrev pub NotBoth : Client → ℕ → Type 0
NotBoth m h = (m.held h ≡ None) ⊎ (m.chunk h ≡ None)

abbrev pub holding : Client → ℕ → Bool
holding m h = is_some (m.held h)

-- the objects of a ticket's block
abbrev pub objects_of_block : ProgramShape → Ticket → List ℕ
objects_of_block p t = (text_of p t).reserved

-- different objects, each reserved
abbrev pub Lined : (ℕ → Bool) → List ℕ → Type 0
Lined may [] = Unit {0}
Lined may (h ∷ hs) = (is_in hs h ≡ false) × (may h ≡ true) × Lined may hs

-- where a client may stop: the end is passed, and a query's object is held
abbrev pub Stops : Synced → Type 0
Stops (Call r next) = Unit {0}
Stops (Sync h next) = Unit {0}
Stops _ = ⊥

module _ (p : ProgramShape) (t : Ticket) (sent : ℕ → List Parcel) (got : ℕ → List HeldState) where
  abbrev pub Lanes : BlockRecord → (ℕ → ObjectStance) → Type 0
  Lanes pg s = (h : ℕ) → ClientLane t false (sent h) (got h) (part h pg.trace) (s h)

  -- about to go on with this rest
  pub record Ready (m : Client) (pg : BlockRecord) (code : Synced) : Type 0 where
    pub block_record : IsOpenRecord p t pg
    pub rest : pg.rest ≡ without_syncs code
    pub lanes : Lanes pg (λ h. in_hand (m.held h) (m.chunk h))
    pub not_both : (h : ℕ) → NotBoth m h
    pub own : (h : ℕ) → reserves p t h ≡ false → HasNone m h
    pub sound : IsSoundSynced (holding m) code
    pub on : IsOnReserved (objects_of_block p t) code

  -- waiting for h
  pub record Waiting (m : Client) (pg : BlockRecord) (h : ℕ) (code : Synced) : Type 0 where
    pub block_record : IsOpenRecord p t pg
    pub rest : pg.rest ≡ without_syncs code
    pub lanes : Lanes pg (λ g. if h == g then asks else in_hand (m.held g) (m.chunk g))
    pub not_both : (g : ℕ) → NotBoth m g
    pub held : m.held h ≡ None
    pub chunk : m.chunk h ≡ None
    pub own : (g : ℕ) → reserves p t g ≡ false → HasNone m g
    pub at : reserves p t h ≡ true
    pub sound : IsSoundSynced (put (holding m) h true) code
    pub on : IsOnReserved (objects_of_block p t) code

  -- leaving these objects
  pub record Leaving (m : Client) (pg : BlockRecord) (names : List ℕ) (l : Locals) : Type 0 where
    pub block_record : IsOpenRecord p t pg
    pub rest : pg.rest ≡ tree.Done l
    pub lanes : Lanes pg (λ g. if is_in names g then in_hand (m.held g) (m.chunk g) else apart_from p t g)
    pub not_both : (g : ℕ) → NotBoth m g
    pub lined : Lined (reserves p t) names
    pub empty : (g : ℕ) → is_in names g ≡ false → HasNone m g

  abbrev pub PlaceOk : Client → BlockRecord → ClientStage → Type 0
  PlaceOk m pg (between l) = Leaving m pg [] l
  PlaceOk m pg (runs code) = Ready m pg code × Stops code
  PlaceOk m pg (full h code) = Ready m pg code
  PlaceOk m pg (awaits h code) = Waiting m pg h code
  PlaceOk m pg (leaves h hs l) = Leaving m pg (h ∷ hs) l

-- how a client stands to an object, by its place
abbrev pub standing_at : ProgramShape → Ticket → Client → ClientStage → ℕ → ObjectStance
standing_at p t m (between l) h = apart_from p t h
standing_at p t m (awaits g code) h = if g == h then asks else in_hand (m.held h) (m.chunk h)
standing_at p t m (leaves g hs l) h = if is_in (g ∷ hs) h then in_hand (m.held h) (m.chunk h) else apart_from p t h
standing_at p t m _ h = in_hand (m.held h) (m.chunk h)
