-- A lane as its client or its handler sees it goes on by one move: what the move sends, gives or logs stands at the end
-- of the lists. Each step of a client at a lane is one of seven such moves, and each step of a handler one of five. As
-- a lane is read from its first parcel on, the proofs go by induction on what was sent or received so far.
use Rattle.std.proofs.Common.{◌≡◌, Bool, true, false, List, [], ◌∷◌, ◌++◌, map, refl, sym, ap, ap₂, ◌∙◌, subst, append_assoc, rules, arith}
use Rattle.qs_played.proofs.Names.{map-append, HeldState, run_one, command_event, Event, Ticket, Request, event, each_join}
use Rattle.qs_core_laws.proofs.Names.{IsCommand, Batch, ran_all, Parcel}
use Rattle.qs_chunk.specs.LaneViews.{AllCommands, Extends, ObjectStance, sends, asks, holds, gone, ClientLane, Serving, serves, gives, lent, over, HandlerLane}
use Rattle.qs_chunk.proofs.LaneMatch.{Extends-append}
use Rattle.qs_chunk.specs.declared.parcel.Parcel.TheVariants as parcels

-- from how the client stands, these go on to another standing
abbrev pub ContinuesLane : Ticket → ObjectStance → List Parcel → List HeldState → List Event → ObjectStance → Type 0
ContinuesLane t (sends chunk) sent gots es s = AllCommands chunk → ClientLane t false sent gots (map command_event chunk ++ es) s
ContinuesLane t asks sent gots es s = ClientLane t true sent gots es s
ContinuesLane t (holds x) sent gots es s = (g : HeldState) → (ds : List Event) → Extends t g ds x → ClientLane t true sent (g ∷ gots) (ds ++ es) s
ContinuesLane t gone sent gots es s = (sent ≡ []) × (gots ≡ []) × (es ≡ []) × (s ≡ gone)

pub lane_goes : (t : Ticket) (asked : Bool) (sent : List Parcel) (gots : List HeldState) (es : List Event) (s : ObjectStance) (sent' : List Parcel) (gots' : List HeldState) (es' : List Event) (s' : ObjectStance)
    → ClientLane t asked sent gots es s → ContinuesLane t s sent' gots' es' s' → ClientLane t asked (sent ++ sent') (gots ++ gots') (es ++ es') s'
lane_goes t false [] gots es s sent' gots' es' s' k g = search (rules, map)
lane_goes t false (parcels.Work chunk ∷ sent) gots es s sent' gots' es' s' k g =
    (k.0 ++ es', ap (λ xs. xs ++ es') k.1 ∙ append_assoc (map command_event chunk.items) k.0 es', k.2, lane_goes t false sent gots k.0 s sent' gots' es' s' k.3 g)
lane_goes t false (parcels.Sync ∷ sent) gots es s sent' gots' es' s' k g = lane_goes t true sent gots es s sent' gots' es' s' k g
lane_goes t false (parcels.End ∷ sent) gots es s sent' gots' es' s' k g = search rules
lane_goes t true [] [] es s sent' gots' es' s' k g = subst (λ es. ClientLane t true sent' gots' (es ++ es') s') (sym k.0) (subst (λ s. ContinuesLane t s sent' gots' es' s') k.1 g)
lane_goes t true [] (x ∷ gots) es s sent' gots' es' s' k g = search rules
lane_goes t true (parcels.Home x ∷ sent) gots es s sent' gots' es' s' k g =
    (k.0, k.1 ++ gots', k.2, k.3 ++ es', ap (λ gs. gs ++ gots') k.4, ap (λ es. es ++ es') k.5 ∙ append_assoc k.2 k.3 es', k.6, lane_goes t false sent k.1 k.3 s sent' gots' es' s' k.7 g)
lane_goes t _ (_ ∷ sent) gots es s sent' gots' es' s' k g = absurd k

-- the seven moves of a client
pub goes_put : (t : Ticket) (chunk : List Request) (r : Request) → IsCommand r.op → ContinuesLane t (sends chunk) [] [] (command_event r ∷ []) (sends (chunk ++ r ∷ []))
goes_put t chunk r c k = (chunk ++ r ∷ [], refl, refl, sym (map-append command_event chunk (r ∷ [])), each_join (λ (r : Request). IsCommand r.op) chunk (r ∷ []) k (c, tt))

pub goes_work : (t : Ticket) (chunk : Batch Request) → ContinuesLane t (sends chunk.items) (parcels.Work chunk ∷ []) [] [] (sends [])
goes_work t chunk k = ([], refl, k, ([], refl, refl, refl, tt))

pub goes_sync : (t : Ticket) → ContinuesLane t (sends []) (parcels.Sync ∷ []) [] [] asks
goes_sync t k = (refl, refl)

pub goes_got : (t : Ticket) (x : HeldState) → ContinuesLane t asks [] (x ∷ []) [] (holds x)
goes_got t x = (x, refl, refl, refl)

pub goes_ask : (t : Ticket) (x : HeldState) (r : Request) → ContinuesLane t (holds x) [] [] (event r ((run_one x t r).1) ∷ []) (holds ((run_one x t r).0))
goes_ask t x r g ds e = ((run_one x t r).0, refl, refl, Extends-append t g x ((run_one x t r).0) ds (event r ((run_one x t r).1) ∷ []) e (refl, refl))

pub goes_home : (t : Ticket) (x : HeldState) → ContinuesLane t (holds x) (parcels.Home x ∷ []) [] [] (sends [])
goes_home t x g ds e = (g, [], ds, [], refl, refl, e, ([], refl, refl, refl, tt))

pub goes_end : (t : Ticket) → ContinuesLane t (sends []) (parcels.End ∷ []) [] [] gone
goes_end t k = (refl, refl, refl, refl)

-- from how the handler stands
abbrev pub HandlerGoes : Ticket → Serving → List Parcel → List HeldState → Serving → Type 0
HandlerGoes t (serves x) got gave s = HandlerLane t false x got gave s
HandlerGoes t (gives x) got gave s = HandlerLane t true x got gave s
HandlerGoes t (lent x) got gave s = HandlerLane t true x got (x ∷ gave) s
HandlerGoes t (over x) got gave s = (got ≡ []) × (gave ≡ []) × (s ≡ over x)

pub handler_goes : (t : Ticket) (asked : Bool) (x : HeldState) (got : List Parcel) (gave : List HeldState) (s : Serving) (got' : List Parcel) (gave' : List HeldState) (s' : Serving)
    → HandlerLane t asked x got gave s → HandlerGoes t s got' gave' s' → HandlerLane t asked x (got ++ got') (gave ++ gave') s'
handler_goes t false x [] gave s got' gave' s' k g = subst (λ gs. HandlerLane t false x got' (gs ++ gave') s') (sym k.0) (subst (λ s. HandlerGoes t s got' gave' s') k.1 g)
handler_goes t false x (parcels.Work chunk ∷ got) gave s got' gave' s' k g = handler_goes t false (ran_all x t chunk.items) got gave s got' gave' s' k g
handler_goes t false x (parcels.Sync ∷ got) gave s got' gave' s' k g = handler_goes t true x got gave s got' gave' s' k g
handler_goes t false x (parcels.End ∷ got) gave s got' gave' s' k g = search rules
handler_goes t true x [] [] s got' gave' s' k g = subst (λ s. HandlerGoes t s got' gave' s') k g
handler_goes t true x [] (y ∷ gave) s got' gave' s' k g = search rules
handler_goes t true x (parcels.Home y ∷ got) gave s got' gave' s' k g = (k.0 ++ gave', ap (λ gs. gs ++ gave') k.1, handler_goes t false y got k.0 s got' gave' s' k.2 g)
handler_goes t _ x (_ ∷ got) gave s got' gave' s' k g = absurd k

-- the five moves of a handler
pub handler_work : (t : Ticket) (x : HeldState) (chunk : Batch Request) → HandlerGoes t (serves x) (parcels.Work chunk ∷ []) [] (serves (ran_all x t chunk.items))
handler_work t x chunk = (refl, refl)

pub handler_sync : (t : Ticket) (x : HeldState) → HandlerGoes t (serves x) (parcels.Sync ∷ []) [] (gives x)
handler_sync t x = refl

pub handler_give : (t : Ticket) (x : HeldState) → HandlerGoes t (gives x) [] (x ∷ []) (lent x)
handler_give t x = (refl, refl, refl)

pub handler_home : (t : Ticket) (x y : HeldState) → HandlerGoes t (lent x) (parcels.Home y ∷ []) [] (serves y)
handler_home t x y = ([], refl, (refl, refl))

pub handler_end : (t : Ticket) (x : HeldState) → HandlerGoes t (serves x) (parcels.End ∷ []) [] (over x)
handler_end t x = (refl, refl, refl)
