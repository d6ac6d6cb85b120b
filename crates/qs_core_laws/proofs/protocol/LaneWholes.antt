-- A ticket's part of its trace is what was run on the object, wherever the object is, then the commands in the lane,
-- and then those in the open chunk; in a lane that was taken to its End all of it was run. So journals follow the
-- traces (`JournalOrder`, `JournalFlows`). The proof reads both ends of the lane side by side, by induction on what the
-- handler received.
use Rattle.std.proofs.Common.{◌≡◌, Bool, true, false, List, [], ◌∷◌, ◌++◌, map, refl, sym, ap, ap₂, ◌∙◌, subst, append_assoc, append-nil, rules, arith}
use Rattle.qs_played.proofs.Names.{map-append, HeldState, IsFront, command_event, Event, Ticket, Request, each_join}
use Rattle.qs_core_laws.proofs.Names.{IsCommand, ran_all, Parcel, commands_in}
use Rattle.qs_chunk.specs.LaneViews.{AllCommands, Extends, ObjectStance, sends, gone, ClientLane, Serving, lent, over, HandlerLane, HandlerGives, object_of}
use Rattle.qs_chunk.proofs.LaneMatch.{Extends-append, Extends-ran_all}
use Rattle.qs_chunk.specs.declared.parcel.Parcel.TheVariants as parcels
use Rattle.qs_core_laws.proofs.protocol.LaneFronts.{front_of_none, front_rest}

-- a lane that the handler has taken to its end
pub match_over : (t : Ticket) (x z : HeldState) (sent : List Parcel) (gots gave : List HeldState) (es : List Event) (c : ObjectStance)
    → ClientLane t false sent gots es c → HandlerLane t false x sent gave (over z) → IsFront gots gave → Extends t x es z × (c ≡ gone)
match_over t x z [] gots gave es c k l f = absurd (cc (l.1))
match_over t x z (parcels.Work chunk ∷ sent) gots gave es c k l f =
    let r = match_over t (ran_all x t chunk.items) z sent gots gave k.0 c k.3 l f in
    (subst (λ es. Extends t x es z) (sym k.1) (Extends-append t x (ran_all x t chunk.items) z (map command_event chunk.items) k.0 (Extends-ran_all t x chunk.items k.2) r.0), r.1)
match_over t x z (parcels.End ∷ sent) gots gave es c k l f = search rules
match_over t x z (parcels.Sync ∷ []) gots [] es c k l f = absurd (cc (l))
match_over t x z (parcels.Sync ∷ []) gots (g ∷ gave) es c k l f = absurd (cc (l.2))
match_over t x z (parcels.Sync ∷ (parcels.Home w ∷ sent)) gots gave es c k l f =
    let both = front_rest k.0 x k.1 l.0 (subst (λ g. IsFront g (x ∷ l.0)) k.4 (subst (IsFront gots) l.1 f)) in
    let r = match_over t w z sent k.1 l.0 k.3 c k.7 l.2 both.1 in
    (subst (λ es. Extends t x es z) (sym k.5) (Extends-append t x w z k.2 k.3 (subst (λ g. Extends t g k.2 w) both.0 k.6) r.0), r.1)
match_over t x z (_ ∷ _) gots gave es c k l f = absurd k

-- the chunk of who stands so
abbrev pub chunk_of : ObjectStance → List Request
chunk_of (sends chunk) = chunk
chunk_of _ = []

-- a ticket's part is what was run, what is on its way, and the chunk in hand
pub record Whole (t : Ticket) (x : HeldState) (es : List Event) (c : ObjectStance) (z : HeldState) (way : List Parcel) : Type 0 where
  pub ran : List Event
  pub part : es ≡ ran ++ map command_event (commands_in way ++ chunk_of c)
  pub extends : Extends t x ran z
  pub commands : AllCommands (commands_in way ++ chunk_of c)

pub waits_are : (t : Ticket) (sent : List Parcel) (es : List Event) (s : ObjectStance) → ClientLane t false sent [] es s → (es ≡ map command_event (commands_in sent ++ chunk_of s)) × AllCommands (commands_in sent ++ chunk_of s)
waits_are t [] es s c = (c.3 ∙ ap (λ s. map command_event (chunk_of s)) (sym c.1), subst (λ s. AllCommands (chunk_of s)) (sym c.1) c.4)
waits_are t (parcels.Work chunk ∷ sent) es s c = search (rules, map, map-append, append_assoc, each_join, waits_are t sent c.0 s c.3)
waits_are t (parcels.Sync ∷ []) es s c = (c.0 ∙ ap (λ s. map command_event (chunk_of s)) (sym c.1), subst (λ s. AllCommands (chunk_of s)) (sym c.1) tt)
waits_are t (parcels.Sync ∷ (parcels.Home x ∷ sent)) es s c = absurd (cc (c.4))
waits_are t (parcels.End ∷ sent) es s c = (c.2 ∙ ap₂ (λ ps s. map command_event (commands_in ps ++ chunk_of s)) (sym c.0) (sym c.3), subst (λ s. AllCommands (commands_in sent ++ chunk_of s)) (sym c.3) (subst (λ ps. AllCommands (commands_in ps ++ [])) (sym c.0) tt))
waits_are t (_ ∷ _) es s c = absurd c

-- nothing was run
pub none_whole : (t : Ticket) (x : HeldState) (way : List Parcel) (es : List Event) (c : ObjectStance) → ClientLane t false way [] es c → Whole t x es c x way
none_whole t x way es c k = search (rules, waits_are)

more_whole : (t : Ticket) (x y z : HeldState) (ds es rest : List Event) (c : ObjectStance) (way : List Parcel) → es ≡ ds ++ rest → Extends t x ds y → Whole t y rest c z way → Whole t x es c z way
more_whole t x y z ds es rest c way e p m = search (rules, append_assoc, map, Extends-append)

asked : (t : Ticket) (x : HeldState) (way : List Parcel) (gots gave : List HeldState) (es : List Event) (c : ObjectStance) (h : Serving) → ClientLane t true way gots es c → HandlerGives x gave h → IsFront gots gave → Whole t x es c (object_of h c way) way
asked t x [] [] [] es c h k l f = subst (λ h. Whole t x es c (object_of h c []) []) (sym l) (subst (λ c. Whole t x es c x []) (sym k.1) (record { ran = []; part = k.0; extends = refl; commands = tt }))
asked t x [] [] (g ∷ gave) es c h k l f = subst (λ h. Whole t x es c (object_of h c []) []) (sym l.2) (subst (λ c. Whole t x es c (object_of (lent x) c []) []) (sym k.1) (record { ran = []; part = k.0; extends = refl; commands = tt }))
asked t x [] (p ∷ gots) [] es c h k l f = absurd (cc (f.1))
asked t x [] (p ∷ gots) (g ∷ gave) es c h k l f = search (rules, front_rest, append-nil)
asked t x (parcels.Home y ∷ way) gots [] es c h k l f = absurd (let n = front_of_none gots f in cc (n, k.4))
asked t x (parcels.Home y ∷ way) gots (g ∷ gave) es c h k l f =
    let both = front_rest k.0 g k.1 gave (subst (λ q. IsFront q (g ∷ gave)) k.4 f) in
    let none : k.1 ≡ [] = front_of_none k.1 (subst (IsFront k.1) l.1 both.1) in
    let w = none_whole t y way k.3 c (subst (λ q. ClientLane t false way q k.3 c) none k.7) in
    subst (λ h. Whole t x es c (object_of h c (parcels.Home y ∷ way)) (parcels.Home y ∷ way)) (sym l.2)
    (more_whole t x y y k.2 es k.3 c (parcels.Home y ∷ way) k.5 (subst (λ p. Extends t p k.2 y) (both.0 ∙ l.0) k.6) (record { ran = w.ran; part = w.part; extends = w.extends; commands = w.commands }))
asked t x (_ ∷ way) gots gave es c h k l f = absurd k

pub match_whole : (t : Ticket) (x : HeldState) (received way : List Parcel) (gots gave : List HeldState) (es : List Event) (c : ObjectStance) (h : Serving)
    → ClientLane t false (received ++ way) gots es c → HandlerLane t false x received gave h → IsFront gots gave → Whole t x es c (object_of h c way) way
match_whole t x [] way gots gave es c h k l f =
    let none : gots ≡ [] = front_of_none gots (subst (IsFront gots) l.0 f) in
    subst (λ h. Whole t x es c (object_of h c way) way) (sym l.1) (none_whole t x way es c (subst (λ g. ClientLane t false way g es c) none k))
match_whole t x (parcels.Work chunk ∷ received) way gots gave es c h k l f = search (rules, more_whole, map, Extends-ran_all, match_whole t (ran_all x t chunk.items) received way gots gave k.0 c h k.3 l f)
match_whole t x (parcels.End ∷ received) way gots gave es c h k l f = search rules
match_whole t x (parcels.Sync ∷ []) way gots gave es c h k l f = asked t x way gots gave es c h k l f
match_whole t x (parcels.Sync ∷ (parcels.Home y ∷ received)) way gots gave es c h k l f =
    let both = front_rest k.0 x k.1 l.0 (subst (λ g. IsFront g (x ∷ l.0)) k.4 (subst (IsFront gots) l.1 f)) in
    more_whole t x y (object_of h c way) k.2 es k.3 c way k.5 (subst (λ g. Extends t g k.2 y) both.0 k.6) (match_whole t y received way k.1 l.0 k.3 c h k.7 l.2 both.1)
match_whole t x (_ ∷ _) way gots gave es c h k l f = absurd k

-- an End is the last
abbrev pub IsCut : List Parcel → Type 0
IsCut [] = Unit {0}
IsCut (parcels.End ∷ ps) = ps ≡ []
IsCut (_ ∷ ps) = IsCut ps

pub sent_cut : (t : Ticket) (asked : Bool) (sent : List Parcel) (gots : List HeldState) (es : List Event) (c : ObjectStance) → ClientLane t asked sent gots es c → IsCut sent
sent_cut t false (parcels.Work chunk ∷ sent) gots es c k = sent_cut t false sent gots k.0 c k.3
sent_cut t false (parcels.Sync ∷ sent) gots es c k = sent_cut t true sent gots es c k
sent_cut t false (parcels.End ∷ sent) gots es c k = k.0
sent_cut t true (parcels.Home x ∷ sent) gots es c k = sent_cut t false sent k.1 k.3 c k.7
sent_cut t _ (_ ∷ sent) gots es c k = absurd k
sent_cut t _ [] gots es c k = tt

nil_cut : (ps : List Parcel) → ps ≡ [] → IsCut ps
nil_cut v e = search rules

pub back_nil : (xs ys : List Parcel) → xs ++ ys ≡ [] → ys ≡ []
back_nil [] ys e = e
back_nil (p ∷ xs) ys e = absurd (cc)

pub cut_back : (xs ys : List Parcel) → IsCut (xs ++ ys) → IsCut ys
cut_back [] ys k = k
cut_back (parcels.End ∷ xs) ys k = nil_cut ys (back_nil xs ys k)
cut_back (_ ∷ xs) ys k = cut_back xs ys k
