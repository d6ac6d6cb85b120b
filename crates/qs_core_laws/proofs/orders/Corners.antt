-- What a client and a handler share, its *corner*: the handler, its queue of tickets, and the lane between the two.
-- While a client has its block alone, each corner is one of a few (`Due`), and each step of the handler leads it on to
-- one where the handler waits for the client again. A step changes one corner, and keeps all others as they are.
use Rattle.std.proofs.Common.{◌≡◌, ◌∙◌, ◌==◌, ℕ, false, List, [], ◌∷◌, Option, Some, None, refl, sym, ap, subst, rules, arith}
use Rattle.qs_played.proofs.Names.{HeldState, Ticket, Request, put, put_here, put_there, or_stay}
use Rattle.qs_core_laws.proofs.Names.{ClientCode, Batch, ran_all, Parcel, Handler, away, free, gives, serves, spares, Core, core_step, handles, put_lane, with_down, with_spare, with_tickets, with_up}
use Rattle.qs_chunk.specs.declared.parcel.Parcel.TheVariants as parcels
use Rattle.qs_played.specs.declared.schedule.actor.Actor.TheVariants as actor
use Rattle.qs_core_laws.proofs.orders.Settling.{Asks, Gone, Holds, Sends, Stance}

pub lane_here : {A : Type 0} (f : ℕ → ℕ → A) (c h : ℕ) (a : A) → put_lane f c h a c h ≡ a
lane_here f c h a = ap (λ g. g h) (put_here f c (put (f c) h a)) ∙ put_here (f c) h a

pub lane_elsewhere : {A : Type 0} (f : ℕ → ℕ → A) (c h : ℕ) (a : A) (g : ℕ) → (h == g) ≡ false → put_lane f c h a c g ≡ f c g
lane_elsewhere f c h a g other = ap (λ k. k g) (put_here f c (put (f c) h a)) ∙ put_there (f c) h a g other

pub lane_of_others : {A : Type 0} (f : ℕ → ℕ → A) (c h : ℕ) (a : A) (d g : ℕ) → (c == d) ≡ false → put_lane f c h a d g ≡ f d g
lane_of_others f c h a d g other = ap (λ k. k g) (put_there f c (put (f c) h a) d other)

pub record Corner : Type 0 where
  pub handler : Handler
  pub tickets : List Ticket
  pub down : List Parcel
  pub up : Option HeldState
  pub spare : ℕ

-- of a client and a handler
abbrev pub corner : Core → ℕ → ℕ → Corner
corner s c h = record { handler = s.handler h; tickets = s.tickets h; down = s.down c h; up = s.up c h; spare = s.spare c h }

-- where the handler waits: free; serving the block; without its object; and with its object on the way up. Where it has
-- a step: a ticket has come to it, or a parcel; and halfway with an empty chunk or the object to give.
pub data Due : Type 0 where
  Free : (held : HeldState) → (spare : ℕ) → Due
  Serves : (held : HeldState) → (spare : ℕ) → Due
  Away : (spare : ℕ) → Due
  Lent : (held : HeldState) → (spare : ℕ) → Due
  Booked : (held : HeldState) → (spare : ℕ) → Due
  ComesHome : (held : HeldState) → (spare : ℕ) → Due
  Works : (held : HeldState) → (chunk : Batch Request) → Due
  Syncs : (held : HeldState) → (spare : ℕ) → Due
  Ends : (held : HeldState) → (spare : ℕ) → Due
  Sparing : (held : HeldState) → (capacity : ℕ) → Due
  Giving : (held : HeldState) → (spare : ℕ) → Due

-- how the client stands to the object once the handler waits
abbrev pub stance_of : Due → Stance
stance_of (Free x n) = Gone
stance_of (Away n) = Holds
stance_of (Lent x n) = Asks
stance_of (Syncs x n) = Asks
stance_of (Ends x n) = Gone
stance_of (Giving x n) = Asks
stance_of _ = Sends

-- how many empty chunks lie ready then
abbrev pub spare_of : Due → ℕ
spare_of (Free x n) = n
spare_of (Serves x n) = n
spare_of (Away n) = n
spare_of (Lent x n) = n
spare_of (Booked x n) = n
spare_of (ComesHome x n) = n
spare_of (Syncs x n) = n
spare_of (Ends x n) = n
spare_of (Giving x n) = n
spare_of _ = 4

-- the handler waits
abbrev pub Waits : Due → Type 0
Waits (Free x n) = Unit {0}
Waits (Serves x n) = Unit {0}
Waits (Away n) = Unit {0}
Waits (Lent x n) = Unit {0}
Waits _ = ⊥

-- after one step of the handler
abbrev pub once : Ticket → Due → Due
once t (Free x n) = Free x n
once t (Serves x n) = Serves x n
once t (Away n) = Away n
once t (Lent x n) = Lent x n
once t (Booked x n) = Serves x n
once t (ComesHome x n) = Serves x n
once t (Works x chunk) = Sparing (ran_all x t chunk.items) chunk.capacity
once t (Syncs x n) = Giving x n
once t (Ends x n) = Free x n
once t (Sparing x n) = Serves x 4
once t (Giving x n) = Lent x n

pub once_stance : (t : Ticket) (d : Due) → stance_of (once t d) ≡ stance_of d
once_stance t (Free x n) = refl
once_stance t _ = refl

pub once_spare : (t : Ticket) (d : Due) → spare_of (once t d) ≡ spare_of d
once_spare t (Free x n) = refl
once_spare t _ = refl

-- two steps are enough
pub twice_waits : (t : Ticket) (d : Due) → Waits (once t (once t d))
twice_waits t (Free x n) = tt
twice_waits t _ = tt

-- which corner that is, of the client of this ticket
abbrev pub corner_of : Ticket → Due → Corner
corner_of t (Free x n) = record { handler = free x; tickets = []; down = []; up = None; spare = n }
corner_of t (Serves x n) = record { handler = serves t x; tickets = []; down = []; up = None; spare = n }
corner_of t (Away n) = record { handler = away t; tickets = []; down = []; up = None; spare = n }
corner_of t (Lent x n) = record { handler = away t; tickets = []; down = []; up = Some x; spare = n }
corner_of t (Booked x n) = record { handler = free x; tickets = t ∷ []; down = []; up = None; spare = n }
corner_of t (ComesHome x n) = record { handler = away t; tickets = []; down = parcels.Home x ∷ []; up = None; spare = n }
corner_of t (Works x chunk) = record { handler = serves t x; tickets = []; down = parcels.Work chunk ∷ []; up = None; spare = 3 }
corner_of t (Syncs x n) = record { handler = serves t x; tickets = []; down = parcels.Sync ∷ []; up = None; spare = n }
corner_of t (Ends x n) = record { handler = serves t x; tickets = []; down = parcels.End ∷ []; up = None; spare = n }
corner_of t (Sparing x n) = record { handler = spares t x n; tickets = []; down = []; up = None; spare = 3 }
corner_of t (Giving x n) = record { handler = gives t x; tickets = []; down = []; up = None; spare = n }

-- The lanes of a client are the same in two states.
pub record HasSameLanes (s n : Core) (d : ℕ) : Type 0 where
  pub down : (g : ℕ) → n.down d g ≡ s.down d g
  pub up : (g : ℕ) → n.up d g ≡ s.up d g
  pub spare : (g : ℕ) → n.spare d g ≡ s.spare d g

-- From one state to another only one corner has changed, and it is this one now.
pub record IsChangedAt (c h : ℕ) (q : Corner) (s n : Core) : Type 0 where
  pub here : corner n c h ≡ q
  pub elsewhere : (g : ℕ) → (h == g) ≡ false → corner n c g ≡ corner s c g
  pub lanes : (d : ℕ) → (c == d) ≡ false → HasSameLanes s n d

-- and beside it nothing
pub record IsServedAt (c h : ℕ) (q : Corner) (s n : Core) : Type 0 where
  pub order : n.order ≡ s.order
  pub client : n.client ≡ s.client
  pub changed : IsChangedAt c h q s n

module _ (code : ℕ → ClientCode) (size : ℕ) (s : Core) (c h : ℕ) (q : Corner) (e : corner s c h ≡ q) where
  served_none : IsServedAt c h q s s
  served_none = search rules

  served_ticket : (ts : List Ticket) (v : Handler)
      → IsServedAt c h (record { handler = v; tickets = ts; down = q.down; up = q.up; spare = q.spare }) s (handles code size (with_tickets code size s h ts) h v)
  served_ticket ts v = search (rules, put_here, put_there)

  served_parcel : (ps : List Parcel) (v : Handler)
      → IsServedAt c h (record { handler = v; tickets = q.tickets; down = ps; up = q.up; spare = q.spare }) s (handles code size (with_down code size s c h ps) h v)
  served_parcel ps v = search (rules, put_here, lane_here, put_there, lane_elsewhere, lane_of_others)

  served_up : (x : Option HeldState) (v : Handler)
      → IsServedAt c h (record { handler = v; tickets = q.tickets; down = q.down; up = x; spare = q.spare }) s (handles code size (with_up code size s c h x) h v)
  served_up x v = search (rules, put_here, lane_here, put_there, lane_elsewhere, lane_of_others)

  served_spare : (n : ℕ) (v : Handler)
      → IsServedAt c h (record { handler = v; tickets = q.tickets; down = q.down; up = q.up; spare = n }) s (handles code size (with_spare code size s c h n) h v)
  served_spare n v = search (rules, put_here, lane_here, put_there, lane_elsewhere, lane_of_others)

module _ (code : ℕ → ClientCode) (size : ℕ) where
  -- where it goes from a step that is known
  went : (P : Core → Type 0) (s : Core) (o r : Option Core) → o ≡ r → P (or_stay s r) → P (or_stay s o)
  went P s o r is p = subst (λ x. P (or_stay s x)) (sym is) p

  -- one step of a handler
  pub serve_once : (t : Ticket) (s : Core) (h : ℕ) (d : Due) → corner s t.client h ≡ corner_of t d
      → IsServedAt t.client h (corner_of t (once t d)) s (or_stay s (core_step code size s (actor.Handler h)))
  serve_once t s h d e = search (rules, went, served_none, served_ticket, served_parcel, served_spare, served_up)
