-- After any run from its first ticket on, a handler stands to each client's lane as it should: it gives its object only
-- for a Sync that is not served yet, and gives back empty chunks of the lane's size. The proof of the loop in a
-- handler's thread stands on it. It goes by induction on the tasks of the run, with cases on whether a task is with
-- this client or with another.
use Rattle.std.proofs.Common.{◌≡◌, ℕ, false, ◌==◌, List, [], ◌∷◌, ◌++◌, refl, sym, subst, ⊎_elim, append_assoc, append-nil, rules}
use Rattle.std.specs.List.{AllByRecursion}
use Rattle.qs_objects.specs.audit.Journals.{HeldState}
use Rattle.qs_objects.proofs.Choices.{apart_eqb, eqb_self, num_cases}
use Rattle.qs_chunk.specs.audit.Lanes.{HasSize}
use Rattle.qs_chunk.specs.declared.parcel.Parcel.{Parcel}
use Rattle.qs_handler.specs.audit.Handler.{Handler, free, act_of, gave}
use Rattle.qs_handler.specs.HandlerLanes.{HandlerFitsLane}
use Rattle.qs_handler.specs.audit.HandlerRuns.{Task, takes, receives, gives, spares, TasksLead, received_from, given_to}
use Rattle.qs_handler.specs.HandlerRuns.{RunsKeepLanes, GivesFollowSyncs, SparesFollowChunks, HandlerRunLaws}
use Rattle.qs_handler.specs.declared.mind.Act.TheVariants as acts
use Rattle.qs_handler.proofs.LaneTurns.{handler_lane_laws}

module _ (size client : ℕ) where
  -- what came of this client's lane, and what went there, beside these lists
  abbrev Comes : Handler → List Parcel → List HeldState → List Task → Type 0
  Comes end parcels given tasks = HandlerFitsLane size client end (parcels ++ received_from client tasks) (given ++ given_to client tasks)

  module _ (end : Handler) (parcels : List Parcel) (given : List HeldState) (tasks : List Task) where
    own_parcel : (p : Parcel) → Comes end (parcels ++ p ∷ []) given tasks → Comes end parcels given (receives client p ∷ tasks)
    own_parcel p comes = search (rules, eqb_self, append_assoc)

    other_parcel : (c : ℕ) (p : Parcel) → (c == client) ≡ false → Comes end parcels given tasks → Comes end parcels given (receives c p ∷ tasks)
    other_parcel c p apart comes = search rules

    own_object : (x : HeldState) → Comes end parcels (given ++ x ∷ []) tasks → Comes end parcels given (gives client x ∷ tasks)
    own_object x comes = search (rules, eqb_self, append_assoc)

    other_object : (c : ℕ) (x : HeldState) → (c == client) ≡ false → Comes end parcels given tasks → Comes end parcels given (gives c x ∷ tasks)
    other_object c x apart comes = search rules

  -- the sizes of the parcel that comes, and of those after it
  own_sizes : (c : ℕ) (p : Parcel) (tasks : List Task) → c ≡ client → AllByRecursion (HasSize size) (received_from client (receives c p ∷ tasks))
      → HasSize size p × AllByRecursion (HasSize size) (received_from client tasks)
  own_sizes c p tasks same sized = search rules

  other_sizes : (c : ℕ) (p : Parcel) (tasks : List Task) → (c == client) ≡ false → AllByRecursion (HasSize size) (received_from client (receives c p ∷ tasks))
      → AllByRecursion (HasSize size) (received_from client tasks)
  other_sizes c p tasks apart sized = search rules

  runs_on : (h end : Handler) (parcels : List Parcel) (given : List HeldState) (tasks : List Task)
      → HandlerFitsLane size client h parcels given → TasksLead h tasks end → AllByRecursion (HasSize size) (received_from client tasks) → Comes end parcels given tasks
  runs_on h end parcels given [] stands leads sized = search (rules, append-nil)
  runs_on h end parcels given (takes next ∷ tasks) stands leads sized =
      runs_on leads.0 end parcels given tasks (handler_lane_laws.tickets size client h leads.0 next parcels given leads.1 stands) leads.2 sized
  runs_on h end parcels given (receives c p ∷ tasks) stands leads sized =
      ⊎_elim
      (λ (same : c ≡ client).
      let sizes = own_sizes c p tasks same sized in
      let asked = subst (λ k. act_of h ≡ acts.TakeParcel k) same leads.1 in
      subst (λ k. Comes end parcels given (receives k p ∷ tasks)) (sym same)
      (own_parcel end parcels given tasks p
      (runs_on leads.0 end (parcels ++ p ∷ []) given tasks (handler_lane_laws.parcels size client h leads.0 p parcels given asked leads.2 sizes.0 stands) leads.3 sizes.1)))
      (λ (apart : (c == client) ≡ false).
      other_parcel end parcels given tasks c p apart
      (runs_on leads.0 end parcels given tasks
      (handler_lane_laws.parcels_elsewhere size c client h leads.0 p parcels given leads.1 leads.2 (apart_eqb c client apart) stands) leads.3 (other_sizes c p tasks apart sized)))
      (num_cases c client)
  runs_on h end parcels given (gives c x ∷ tasks) stands leads sized =
      ⊎_elim
      (λ (same : c ≡ client).
      let asked = subst (λ k. act_of h ≡ acts.Give k x) same leads.0 in
      subst (λ k. Comes end parcels given (gives k x ∷ tasks)) (sym same)
      (own_object end parcels given tasks x
      (runs_on (gave h) end parcels (given ++ x ∷ []) tasks (handler_lane_laws.gives size client h x parcels given asked stands).2 leads.1 sized)))
      (λ (apart : (c == client) ≡ false).
      other_object end parcels given tasks c x apart
      (runs_on (gave h) end parcels given tasks (handler_lane_laws.gives_elsewhere size c client h x parcels given leads.0 (apart_eqb c client apart) stands) leads.1 sized))
      (num_cases c client)
  runs_on h end parcels given (spares c chunk ∷ tasks) stands leads sized =
      runs_on (gave h) end parcels given tasks (handler_lane_laws.spares_on size c client h chunk parcels given leads.0 stands) leads.1 sized

runs_keep_lanes : RunsKeepLanes
runs_keep_lanes size client x tasks end leads sized = runs_on size client (free x) end [] [] tasks (handler_lane_laws.begins size client x) leads sized

-- a run up to a moment, and from it on
parted : (h end : Handler) (before later : List Task) → TasksLead h (before ++ later) end → (m : Handler) × TasksLead h before m × TasksLead m later end
parted h end [] later leads = (h, refl, leads)
parted h end (takes next ∷ before) later leads = let r = parted leads.0 end before later leads.2 in (r.0, (leads.0, leads.1, r.1), r.2)
parted h end (receives c p ∷ before) later leads = let r = parted leads.0 end before later leads.3 in (r.0, (leads.0, leads.1, leads.2, r.1), r.2)
parted h end (_ ∷ before) later leads = let r = parted (gave h) end before later leads.1 in (r.0, (leads.0, r.1), r.2)

gives_follow_syncs : GivesFollowSyncs
gives_follow_syncs size client x y before later end leads sized =
    let r = parted (free x) end before (gives client y ∷ later) leads in
    let g = handler_lane_laws.gives size client r.0 y (received_from client before) (given_to client before) r.2.0 (runs_keep_lanes size client x before r.0 r.1 sized) in
    (g.0, g.1)

spares_follow_chunks : SparesFollowChunks
spares_follow_chunks size client x chunk before later end leads sized =
    let r = parted (free x) end before (spares client chunk ∷ later) leads in
    handler_lane_laws.spares size client r.0 chunk (received_from client before) (given_to client before) r.2.0 (runs_keep_lanes size client x before r.0 r.1 sized)

pub handler_run_laws : HandlerRunLaws
handler_run_laws = record { lanes = runs_keep_lanes; gives = gives_follow_syncs; spares = spares_follow_chunks }
