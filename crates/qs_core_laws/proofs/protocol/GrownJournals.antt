-- An object's journal that has grown by the events of one ticket: it stays honest, replays to the object's state, and
-- keeps its room. That journals go on along the order of reservations is shown with it, ticket by ticket, of the
-- machine and of threads.
use Rattle.std.proofs.Common.{◌≡◌, ◌+◌, ◌≤◌, ℕ, Bool, if◌then◌else◌, List, [], ◌∷◌, ◌++◌, map, length, refl, sym, ap, ◌∙◌, subst, append_assoc, append-nil, None, rules, arith}
use Rattle.qs_played.proofs.Names.{length-append, length-map, map-append, act, HeldState, has_room, with_entry, replay, unstamp, without_tickets, IsHonest, stamp, Entry, Event, Ticket, replay-append, IsHonest-append, unstamp_all}
use Rattle.qs_chunk.specs.LaneViews.{Extends}

-- y is x after these events under this ticket, where the journal has room for them
pub record Grown (t : Ticket) (x : HeldState) (es : List Event) (y : HeldState) : Type 0 where
  pub honest : IsHonest x.object es
  pub state : y.object ≡ replay x.object es
  pub journal : y.journal ≡ x.journal ++ map (stamp t) es
  pub room : y.room ≡ x.room

pub grown : (t : Ticket) (x : HeldState) (es : List Event) (y : HeldState) → Extends t x es y → length x.journal + length es ≤ x.room → Grown t x es y
grown t x [] y k le = search (rules, append-nil)
grown t x (e ∷ es) y k le = by_case (has_room x) refl (λ x k le. grown t x es y k le) k
  where
    by_case : (b : Bool) → has_room x ≡ b → ((x : HeldState) → Extends t x es y → length x.journal + length es ≤ x.room → Grown t x es y)
        → (e.reply ≡ (if b then with_entry x t e.request (act x.object e.request.op e.request.args) else (x, None)).1)
        × Extends t (if b then with_entry x t e.request (act x.object e.request.op e.request.args) else (x, None)).0 es y
        → Grown t x (e ∷ es) y
    by_case b h ih k = search (rules, length-append, append_assoc)

-- an honest journal after these events
pub stamped_honest : (t : Ticket) (x z : HeldState) (es : List Event) (j : List Entry) → Grown t x es z → IsHonest z.object (without_tickets j) → IsHonest x.object (without_tickets (map (stamp t) es ++ j))
stamped_honest t x z es j e k = search (rules, map, map-append, unstamp_all, IsHonest-append)

pub stamped_replay : (t : Ticket) (x z : HeldState) (es : List Event) (j : List Entry) → Grown t x es z → replay x.object (without_tickets (map (stamp t) es ++ j)) ≡ replay z.object (without_tickets j)
stamped_replay t x z es j e = search (rules, map, map-append, unstamp_all, replay-append)

pub grown_room : (t : Ticket) (x z : HeldState) (es : List Event) (n : ℕ) → Grown t x es z → length x.journal + (length es + n) ≤ x.room → length z.journal + n ≤ z.room
grown_room t x z es n e le = search (rules, length-append, length-map)
