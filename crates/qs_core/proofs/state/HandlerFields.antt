-- What a handler does is the step that the optimised machine defines: it takes a ticket or a parcel, gives its object,
-- or gives back an empty chunk; where queue and lane don't allow it, the machine has no step. The lemmas on the code's
-- lists stand on this. The machine is compared field by field, by cases on the handler's act and on what lies in the
-- lane.
use Rattle.std.proofs.Common.{◌≡◌, ◌<◌, ℕ, Bool, nat_lt, List, [], ◌∷◌, ◌++◌, length, refl, ap, suc, Option, Some, None, rules}
use Rattle.qs_played.proofs.Names.{set, HeldState, Ticket, Request, put}
use Rattle.qs_objects.specs.declared.held.Next.TheVariants as nexts
use Rattle.qs_core_laws.proofs.Names.{ClientCode, Batch, Parcel}
use Rattle.qs_handler.specs.audit.Handler.{Handler, act_of, accept_parcel, accept_next}
use Rattle.qs_handler.specs.declared.mind.Act.{Act}
use Rattle.qs_handler.specs.declared.mind.Act.TheVariants as acts
use Rattle.qs_played.specs.declared.schedule.actor.Actor.TheVariants as actor
use Rattle.qs_core_laws.specs.audit.Core.{Core, core_step, gives, after_handler, handler_step, put_lane, takes_parcel}
use Rattle.qs_core_laws.specs.audit.Core as core
use Rattle.qs_core.proofs.Names.{beside, gives_up, lane_step_of_handler, takes_first, turns_to, ClientPart, core_from}
use Rattle.qs_core.specs.parts.LaneStates.{LaneState, lane_at, with_down}
use Rattle.qs_core.proofs.state.CoreFields.{field_kept, in_lanes, lanes_put, lanes_kept, tickets_kept}

one_more : {A : Type 0} (xs : List A) (x : A) → length (xs ++ x ∷ []) ≡ suc (length xs)
one_more [] x = refl
one_more (y ∷ xs) x = ap suc (one_more xs x)

module _ (code : ℕ → ClientCode) (size : ℕ) (order : List Ticket) (sides : ℕ → ClientPart) (handler : ℕ → Handler) (tickets : ℕ → List Ticket) (h : ℕ) where
  abbrev pub before : Core
  before = core_from order sides handler tickets

  -- it took a ticket
  pub ticket_steps : (t : Ticket) (ts : List Ticket) (x : Handler) → act_of (handler h) ≡ acts.TakeTicket → tickets h ≡ t ∷ ts → accept_next (handler h) (nexts.Ticket t) ≡ Some x
      → core_step code size before (actor.Handler h) ≡ Some (core_from order sides (put handler h x) (put tickets h ts))
  ticket_steps t ts x asked first is = rw asked (rw first (rw is refl))

  pub ticket_stays : act_of (handler h) ≡ acts.TakeTicket → tickets h ≡ [] → core_step code size before (actor.Handler h) ≡ None
  ticket_stays asked none = rw asked (rw none refl)

  -- it came to this at the lane of client c
  module _ (c : ℕ) (inside : h < length (sides c).lanes) where
    abbrev pub lane : LaneState
    lane = lane_at (sides c).lanes h

    abbrev pub side_with : LaneState → ClientPart
    side_with l = record { mind = (sides c).mind; lanes = set (sides c).lanes h l }

    abbrev pub after : Handler → LaneState → Core
    after x l = core_from order (put sides c (side_with l)) (put handler h x) tickets

    -- the machine with these lanes and this handler
    abbrev between : Handler → (ℕ → ℕ → List Parcel) → (ℕ → ℕ → Option HeldState) → (ℕ → ℕ → ℕ) → Core
    between x down up spare = record before { down = down; up = up; spare = spare; handler = put handler h x }

    comes : (x : Handler) (l : LaneState) (down : ℕ → ℕ → List Parcel) (up : ℕ → ℕ → Option HeldState) (spare : ℕ → ℕ → ℕ)
        → in_lanes (λ (k : LaneState). k.down) (put sides c (side_with l)) ≡ down
        → in_lanes (λ (k : LaneState). k.up) (put sides c (side_with l)) ≡ up
        → in_lanes (λ (k : LaneState). length k.spare) (put sides c (side_with l)) ≡ spare
        → between x down up spare ≡ after x l
    comes x l down up spare v w u = search (rules, field_kept, tickets_kept)

    -- after a step at the lane, where there is one
    abbrev pub result_of : Option (Handler × LaneState) → Option Core
    result_of None = None
    result_of (Some q) = Some (after q.0 q.1)

    abbrev step_result : Act → Option Core
    step_result act = handler_step code size before h act

    took : (p : Parcel) (ps : List Parcel) (o : Option Handler) → accept_parcel (handler h) p ≡ o → lane.down ≡ p ∷ ps
        → after_handler code size (core.with_down code size before c h ps) h o ≡ result_of (beside (with_down lane ps) o)
    took p ps v is first = search (rules, comes, lane, lanes_put, lanes_kept)

    takes : (ps : List Parcel) → lane.down ≡ ps → takes_parcel code size before h c ps ≡ result_of (takes_first (handler h) lane ps)
    takes v is = search (rules, took)

    given : (x : HeldState) (o : Option HeldState) → lane.up ≡ o → gives code size before h c x o ≡ result_of (gives_up (handler h) x lane o)
    given x v is = search (rules, comes, lane, lanes_kept, lanes_put)

    spared : (b : Batch Request) (room : Bool) → nat_lt (length lane.spare) 4 ≡ room → step_result (acts.Spare c b) ≡ result_of (lane_step_of_handler (handler h) (acts.Spare c b) lane)
    spared b v e = search (rules, comes, lane, lanes_kept, lanes_put, one_more)

    at_act : (act : Act) → turns_to act ≡ Some c → step_result act ≡ result_of (lane_step_of_handler (handler h) act lane)
    at_act v e = search (rules, lane, takes, given, spared)

    pub at_lane : (act : Act) → act_of (handler h) ≡ act → turns_to act ≡ Some c → core_step code size before (actor.Handler h) ≡ result_of (lane_step_of_handler (handler h) act lane)
    at_lane act asked turned = rw asked (at_act act turned)
