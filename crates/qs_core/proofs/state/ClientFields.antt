-- What a client does at one of its lanes is the step that the optimised machine defines, and where it can't act there
-- the machine has no step. The lemmas on the code's lists (`client_steps` and `client_rests`) stand on this. The
-- machine is made of functions of numbers, so the proof compares it field by field, by cases on the act that is due.
use Rattle.std.proofs.Common.{◌≡◌, ◌<◌, ℕ, Bool, true, false, nat_lt, List, [], ◌∷◌, ◌++◌, length, get_or, refl, ap, ◌∙◌, arith, Option, Some, None, add-zero, rules}
use Rattle.qs_played.proofs.Names.{set, HeldState, Event, Ticket, Request, put, Locals, with_sync, SyncCount}
use Rattle.qs_core_laws.proofs.Names.{ClientCode, code_at, Batch, Parcel, lane_room, Handler, Settlement, after_parcel, after_send, without_act, outgoing_of, Act, Core, core_step, current, after_act, lies}
use Rattle.qs_chunk.specs.declared.parcel.Parcel.TheVariants as parcels
use Rattle.qs_client.specs.audit.ClientModel.{ClientModel, act_due, mind_after_chunk, finish, extend, mind_after_object, hands_out, settings_of}
use Rattle.qs_core.proofs.Names.{put_same, put_set_at, ClientPart, core_from}
use Rattle.qs_client.specs.rules.ClientLaws.{SendsAreParted}
use Rattle.qs_client.specs.declared.rules.act.Act.TheVariants as acts
use Rattle.qs_played.specs.declared.schedule.actor.Actor.TheVariants as actor
use Rattle.qs_core.specs.parts.CoreClients.{lane_step_of_client, turns_to}
use Rattle.qs_core.specs.parts.LaneStates.{LaneState, lane_at, with_down}
use Rattle.qs_core.specs.parts.LaneStates as lanes
use Rattle.qs_core.proofs.state.CoreFields.{by_ticket, each, field_put, in_lanes, lanes_put, lanes_kept, tickets_kept, tickets_put}

abbrev pub counts_in : ClientPart → ℕ → List SyncCount
counts_in s k = get_or s.mind.counts k []

-- a client that came to this by an act at its lane to handler h
module _ (order : List Ticket) (sides : ℕ → ClientPart) (handler : ℕ → Handler) (tickets : ℕ → List Ticket) (c : ℕ) where
  abbrev pub own : ClientModel
  own = (sides c).mind

  abbrev pub code : ℕ → ClientCode
  code n = (sides n).mind.code

  abbrev pub before : Core
  before = core_from order sides handler tickets

  abbrev pub now : Ticket
  now = current code own.size c own.client

  module _ (ticket_is : own.ticket ≡ now) (traced : now.index < length own.traces) (tallied_there : now.index < length own.counts) (h : ℕ) (inside : h < length (sides c).lanes) where
    abbrev pub lane : LaneState
    lane = lane_at (sides c).lanes h

    -- the client's side with this lane
    abbrev pub side_with : ClientModel → LaneState → ClientPart
    side_with n l = record { mind = n; lanes = set (sides c).lanes h l }

    abbrev pub after : ClientModel → LaneState → Core
    after n l = core_from order (put sides c (side_with n l)) handler tickets

    -- the machine with these lanes and counts of Syncs
    abbrev pub between : (ℕ → ℕ) → (Ticket → List SyncCount) → (ℕ → ℕ → List Parcel) → (ℕ → ℕ → Option HeldState) → (ℕ → ℕ → ℕ) → Core
    between syncs tallies down up spare = record before { syncs = syncs; sync_counts = tallies; down = down; up = up; spare = spare }

    -- all of it, where the client has come to this
    pub comes : (r : Settlement) (n : ClientModel) (l : LaneState) (syncs : ℕ → ℕ) (tallies : Ticket → List SyncCount) (down : ℕ → ℕ → List Parcel) (up : ℕ → ℕ → Option HeldState) (spare : ℕ → ℕ → ℕ)
        → n.client ≡ r.client → n.traces ≡ extend own.traces now.index r.events → n.entries ≡ own.entries
        → put (each (λ (s : ClientPart). s.mind.syncs) sides) c n.syncs ≡ syncs
        → by_ticket counts_in (put sides c (side_with n l)) ≡ tallies
        → in_lanes (λ (k : LaneState). k.down) (put sides c (side_with n l)) ≡ down
        → in_lanes (λ (k : LaneState). k.up) (put sides c (side_with n l)) ≡ up
        → in_lanes (λ (k : LaneState). length k.spare) (put sides c (side_with n l)) ≡ spare
        → after_act code own.size (between syncs tallies down up spare) c now r ≡ after n l
    comes r n l syncs tallies down up spare v w u z y q1 q2 q3 = search (rules, field_put, tickets_kept, tickets_put, put_set_at)

    -- a parcel was sent
    module _ (parted : SendsAreParted) (p : Parcel) (asked : act_due own ≡ acts.Send h p) where
      abbrev pub sent_on : ClientModel
      sent_on = finish (hands_out own (acts.Send h p))

      abbrev by_parcel : Settlement
      by_parcel = after_parcel (settings_of own) now (code_at own.code now.index).reserved own.client h p

      settled_as : after_send (settings_of own) own.ticket (code_at own.code own.ticket.index).reserved (outgoing_of (acts.Send h p)) (without_act own.client (acts.Send h p)) ≡ by_parcel
      settled_as = search (rules, own, now)

      pub sends_steps : nat_lt (length lane.down) lane_room ≡ true → core_step code own.size before (actor.Client c) ≡ Some (after sent_on (with_down lane (lane.down ++ p ∷ [])))
      sends_steps room = rw asked (rw room (ap Some (comes by_parcel sent_on (with_down lane (lane.down ++ p ∷ [])) _ _ _ _ _
          (ap (λ (r : Settlement). r.client) settled_as)
          (ap (λ (r : Settlement). extend own.traces own.ticket.index r.events) settled_as ∙ ap (λ (t : Ticket). extend own.traces t.index by_parcel.events) ticket_is)
          refl
          (syncs_are p)
          (tallies_are p)
          (lanes_put (λ (k : LaneState). k.down) sides c _ h _ inside refl)
          (lanes_kept (λ (k : LaneState). k.up) sides c _ h _ inside refl refl)
          (lanes_kept (λ (k : LaneState). length k.spare) sides c _ h _ inside refl refl))))
        where
          syncs_are : (q : Parcel) → put (each (λ (s : ClientPart). s.mind.syncs) sides) c (finish (hands_out own (acts.Send h q))).syncs ≡ (lies code own.size before c h q).syncs
          syncs_are v = grind (arith, put_same, add-zero, each)

          side_after : Parcel → ClientPart
          side_after q = side_with (finish (hands_out own (acts.Send h q))) (with_down lane (lane.down ++ p ∷ []))

          more : List SyncCount
          more = with_sync h (get_or own.counts now.index [])

          tallies_are : (q : Parcel) → by_ticket counts_in (put sides c (side_after q)) ≡ (lies code own.size before c h q).sync_counts
          tallies_are v = search (rules, tickets_kept, tickets_put)

      pub sends_stay : nat_lt (length lane.down) lane_room ≡ false → core_step code own.size before (actor.Client c) ≡ None
      sends_stay full = rw asked (rw full refl)

    -- the object came
    module _ (asked : act_due own ≡ acts.Await h) where
      pub gets_steps : (x : HeldState) → lane.up ≡ Some x → core_step code own.size before (actor.Client c) ≡ Some (after (mind_after_object own x) (lanes.with_up lane None))
      gets_steps x v = search (rules, comes, own, lane, put_same, tickets_kept, lanes_kept, lanes_put)

      pub gets_stay : lane.up ≡ None → core_step code own.size before (actor.Client c) ≡ None
      gets_stay none = rw asked (rw none refl)

    -- an empty chunk came
    module _ (asked : act_due own ≡ acts.NeedChunk h) where
      pub takes_steps : (b : Batch Request) (bs : List (Batch Request)) → lane.spare ≡ b ∷ bs → core_step code own.size before (actor.Client c) ≡ Some (after (mind_after_chunk own h) (lanes.with_spare lane bs))
      takes_steps b bs v = search (rules, comes, own, lane, put_same, tickets_kept, lanes_kept, lanes_put)

      pub takes_stay : lane.spare ≡ [] → core_step code own.size before (actor.Client c) ≡ None
      takes_stay none = rw asked (rw none refl)

    -- after a step at the lane, where there is one
    abbrev pub result_of : Option (ClientModel × LaneState) → Option Core
    result_of None = None
    result_of (Some q) = Some (after q.0 q.1)

    module _ (parted : SendsAreParted) where
      abbrev IsStepOf : Act → Type 0
      IsStepOf act = core_step code own.size before (actor.Client c) ≡ result_of (lane_step_of_client own act lane)

      sent_or_not : (p : Parcel) (room : Bool) → nat_lt (length lane.down) lane_room ≡ room → act_due own ≡ acts.Send h p → IsStepOf (acts.Send h p)
      sent_or_not p v e asked = search (rules, sends_steps, sends_stay)

      got_or_not : (o : Option HeldState) → lane.up ≡ o → act_due own ≡ acts.Await h → IsStepOf (acts.Await h)
      got_or_not v e asked = search (rules, gets_steps, gets_stay)

      taken_or_not : (bs : List (Batch Request)) → lane.spare ≡ bs → act_due own ≡ acts.NeedChunk h → IsStepOf (acts.NeedChunk h)
      taken_or_not v e asked = search (rules, takes_steps, takes_stay)

      pub at_lane : (act : Act) → act_due own ≡ act → turns_to act ≡ Some h → IsStepOf act
      at_lane v asked e = search (rules, sent_or_not, got_or_not, taken_or_not)
