-- Where one client changes at one of its lanes, each field of the optimised machine, as a function of numbers, changes
-- at that place alone, or not at all. The lemmas that show a client's or a handler's step field by field use this for
-- each field. Two functions are compared at each number, by whether it is the one that was changed.
use Rattle.std.proofs.Common.{◌≡◌, ◌<◌, ℕ, Bool, if◌then◌else◌, ◌==◌, ◌&&◌, List, length, refl, sym, ap, ◌∙◌, arith, rules}
use Rattle.qs_played.proofs.Names.{set, fun_ext, Ticket, put, ticket}
use Rattle.qs_client.proofs.rules.Puts.{put_field, put_same, put_set_at}
use Rattle.qs_core_laws.specs.audit.Core.{put_lane, put_ticket}
use Rattle.qs_core.proofs.Names.{LaneState, fresh_lane, lane_at, ClientPart}

-- a field at each place
abbrev pub each : {A B : Type 0} → (A → B) → (ℕ → A) → ℕ → B
each f g m = f (g m)

-- where one place is changed
pub field_put : {A B : Type 0} (f : A → B) (g : ℕ → A) (n : ℕ) (a : A) → each f (put g n a) ≡ put (each f g) n (f a)
field_put f g n a = fun_ext (put_field f g n a)

-- a field that the change keeps
pub field_kept : {A B : Type 0} (f : A → B) (g : ℕ → A) (n : ℕ) (a : A) → f a ≡ f (g n) → each f (put g n a) ≡ each f g
field_kept f g n a is = field_put f g n a ∙ put_same (each f g) n (f a) (sym is)

-- a field of one client's lanes where one of them is changed
abbrev pub in_lane : {B : Type 0} → (LaneState → B) → List LaneState → ℕ → B
in_lane f ls h = f (lane_at ls h)

pub lane_put : {B : Type 0} (f : LaneState → B) (ls : List LaneState) (h : ℕ) (l : LaneState) → h < length ls → in_lane f (set ls h l) ≡ put (in_lane f ls) h (f l)
lane_put f ls h l inside = fun_ext (λ n. ap f (put_set_at ls h l (fresh_lane 0) inside n) ∙ put_field f (lane_at ls) h l n)

pub lane_kept : {B : Type 0} (f : LaneState → B) (ls : List LaneState) (h : ℕ) (l : LaneState) → h < length ls → f l ≡ f (lane_at ls h) → in_lane f (set ls h l) ≡ in_lane f ls
lane_kept f ls h l inside is = lane_put f ls h l inside ∙ put_same (in_lane f ls) h (f l) (sym is)

-- and of all clients' lanes
abbrev pub in_lanes : {B : Type 0} → (LaneState → B) → (ℕ → ClientPart) → ℕ → ℕ → B
in_lanes f sides c h = f (lane_at (sides c).lanes h)

module _ {B : Type 0} (f : LaneState → B) (sides : ℕ → ClientPart) (c : ℕ) (v : ClientPart) (h : ℕ) (l : LaneState) (inside : h < length (sides c).lanes) (changed : v.lanes ≡ set (sides c).lanes h l) where
  pub lanes_put : in_lanes f (put sides c v) ≡ put_lane (in_lanes f sides) c h (f l)
  lanes_put = search (rules, field_put, lane_put)

  pub lanes_kept : f l ≡ f (lane_at (sides c).lanes h) → in_lanes f (put sides c v) ≡ in_lanes f sides
  lanes_kept is = search (rules, field_kept, lane_kept)

-- a client whose lanes stay
pub lanes_stay : {B : Type 0} (f : LaneState → B) (sides : ℕ → ClientPart) (c : ℕ) (v : ClientPart) → v.lanes ≡ (sides c).lanes → in_lanes f (put sides c v) ≡ in_lanes f sides
lanes_stay f sides c v same = field_kept (λ (s : ClientPart). in_lane f s.lanes) sides c v (ap (in_lane f) same)

-- what a client has of each block, as of tickets
abbrev pub by_ticket : {B : Type 0} → (ClientPart → ℕ → B) → (ℕ → ClientPart) → Ticket → B
by_ticket f sides t = f (sides t.client) t.index

pub tickets_kept : {B : Type 0} (f : ClientPart → ℕ → B) (sides : ℕ → ClientPart) (c : ℕ) (v : ClientPart) → f v ≡ f (sides c) → by_ticket f (put sides c v) ≡ by_ticket f sides
tickets_kept {B = B} f sides c v is = ap (λ (g : ℕ → ℕ → B). λ (t : Ticket). g t.client t.index) (field_kept f sides c v is)

-- changed at one block
pub tickets_put : {B : Type 0} (f : ClientPart → ℕ → B) (sides : ℕ → ClientPart) (c k : ℕ) (v : ClientPart) (b : B) → f v ≡ put (f (sides c)) k b → by_ticket f (put sides c v) ≡ put_ticket (by_ticket f sides) (ticket c k) b
tickets_put {B = B} f sides c k v b is =
    ap (λ (g : ℕ → ℕ → B). λ (t : Ticket). g t.client t.index) (field_put f sides c v ∙ ap (put (each f sides) c) is)
    ∙ fun_ext (λ t. at_ticket t (c == t.client) refl)
  where
    at_ticket : (t : Ticket) (x : Bool) → (c == t.client) ≡ x
        → (if x then put (f (sides c)) k b else f (sides t.client)) t.index ≡ (if x && (k == t.index) then b else f (sides t.client) t.index)
    at_ticket t v e = grind arith
