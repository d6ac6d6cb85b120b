-- Both ends of one lane, compared, say which parcel may come next to the handler, and that a handler has nothing more
-- to receive, or a client nothing more to get, once the other has come so far. The steps at an object (`ObjectSteps`)
-- stand on this. The proofs go by induction on what the handler received, where each Sync is met by an object that was
-- given.
use Rattle.std.proofs.Common.{◌≡◌, ℕ, Bool, true, false, if◌then◌else◌, ◌==◌, List, [], ◌∷◌, ◌++◌, filter, flat_map, refl, sym, ap, ap₂, ◌∙◌, subst, ◌⊎◌, inl, inr, append_assoc, append-nil, rules, arith}
use Rattle.qs_played.proofs.Names.{AllByRecursion, HeldState, IsFront, same, Event, Ticket, eqb_self}
use Rattle.qs_core_laws.proofs.Names.{ran_all, Parcel, put_at, put_at_here, put_at_there}
use Rattle.qs_chunk.specs.LaneViews.{ObjectStance, gone, ClientLane, Serving, serves, lent, over, HandlerLane}
use Rattle.qs_chunk.specs.declared.parcel.Parcel.TheVariants as parcels
use Rattle.qs_core_laws.proofs.protocol.LaneFronts.{front_of_none, front_rest}

-- A client that has sent the end, and a handler that has received all of it: the handler has the end.
pub gone_over : (t : Ticket) (x : HeldState) (sent : List Parcel) (gots gave : List HeldState) (es : List Event) (s : Serving)
    → ClientLane t false sent gots es gone → HandlerLane t false x sent gave s → (z : HeldState) × (s ≡ over z)
gone_over t x [] gots gave es s k l = absurd (cc (k.1))
gone_over t x (parcels.Work chunk ∷ sent) gots gave es s k l = gone_over t (ran_all x t chunk.items) sent gots gave k.0 s k.3 l
gone_over t x (parcels.End ∷ sent) gots gave es s k l = (x, l.2)
gone_over t x (parcels.Sync ∷ []) [] gave es s k l = absurd (cc (k.1))
gone_over t x (parcels.Sync ∷ []) (g ∷ gots) gave es s k l = absurd (cc (k.2))
gone_over t x (parcels.Sync ∷ (parcels.Home y ∷ sent)) gots gave es s k l = gone_over t y sent k.1 l.0 k.3 s k.7 l.2
gone_over t x (_ ∷ _) gots gave es s k l = absurd k

-- what may come to a handler that serves, and to one that gave the object
abbrev pub MayCome : Serving → Parcel → List Parcel → Type 0
MayCome (serves x) parcels.End way = way ≡ []
MayCome (serves x) (parcels.Work chunk) way = Unit {0}
MayCome (serves x) parcels.Sync way = Unit {0}
MayCome (lent x) (parcels.Home y) way = Unit {0}
MayCome _ _ way = ⊥

come_serves : (t : Ticket) (z : HeldState) (p : Parcel) (way : List Parcel) (gots : List HeldState) (es : List Event) (c : ObjectStance) → ClientLane t false (p ∷ way) gots es c → MayCome (serves z) p way
come_serves t z v way gots es c k = search rules

come_lent : (t : Ticket) (z : HeldState) (p : Parcel) (way : List Parcel) (gots : List HeldState) (es : List Event) (c : ObjectStance) → ClientLane t true (p ∷ way) gots es c → MayCome (lent z) p way
come_lent t z v way gots es c k = search rules

-- nothing comes before what was asked for was given
come_gives : (t : Ticket) (p : Parcel) (way : List Parcel) (gots : List HeldState) (es : List Event) (c : ObjectStance) → ClientLane t true (p ∷ way) gots es c → gots ≡ [] → ⊥
come_gives t v way gots es c k n = search rules

pub come : (t : Ticket) (x : HeldState) (received : List Parcel) (p : Parcel) (way : List Parcel) (gots gave : List HeldState) (es : List Event) (c : ObjectStance) (s : Serving)
    → ClientLane t false (received ++ p ∷ way) gots es c → HandlerLane t false x received gave s → IsFront gots gave → MayCome s p way
come t x [] p way gots gave es c s k l f = subst (λ s. MayCome s p way) (sym l.1) (come_serves t x p way gots es c k)
come t x (parcels.Work chunk ∷ received) p way gots gave es c s k l f = come t (ran_all x t chunk.items) received p way gots gave k.0 c s k.3 l f
come t x (parcels.End ∷ []) p way gots gave es c s k l f = absurd (cc (k.0))
come t x (parcels.End ∷ (q ∷ received)) p way gots gave es c s k l f = absurd (cc (k.0))
come t x (parcels.Sync ∷ []) p way gots [] es c s k l f = absurd (come_gives t p way gots es c k (front_of_none gots f))
come t x (parcels.Sync ∷ []) p way gots (g ∷ gave) es c s k l f = subst (λ s. MayCome s p way) (sym l.2) (come_lent t x p way gots es c k)
come t x (parcels.Sync ∷ (parcels.Home y ∷ received)) p way gots gave es c s k l f =
    let both = front_rest k.0 x k.1 l.0 (subst (λ g. IsFront g (x ∷ l.0)) k.4 (subst (IsFront gots) l.1 f)) in
    come t y received p way k.1 l.0 k.3 c s k.7 l.2 both.1
come t x (_ ∷ _) p way gots gave es c s k l f = absurd k

-- Where a handler has the object and isn't asked for it, all that it gave was got (and came home).
pub serves_got : (t : Ticket) (x z : HeldState) (received way : List Parcel) (gots gave : List HeldState) (es : List Event) (c : ObjectStance)
    → ClientLane t false (received ++ way) gots es c → HandlerLane t false x received gave (serves z) → IsFront gots gave → gots ≡ gave
serves_got t x z [] way gots gave es c k l f = front_of_none gots (subst (IsFront gots) l.0 f) ∙ sym l.0
serves_got t x z (parcels.Work chunk ∷ received) way gots gave es c k l f = serves_got t (ran_all x t chunk.items) z received way gots gave k.0 c k.3 l f
serves_got t x z (parcels.End ∷ received) way gots gave es c k l f = absurd (cc (l.2))
serves_got t x z (parcels.Sync ∷ []) way gots [] es c k l f = absurd (cc (l))
serves_got t x z (parcels.Sync ∷ []) way gots (g ∷ gave) es c k l f = absurd (cc (l.2))
serves_got t x z (parcels.Sync ∷ (parcels.Home y ∷ received)) way gots gave es c k l f =
    let both = front_rest k.0 x k.1 l.0 (subst (λ g. IsFront g (x ∷ l.0)) k.4 (subst (IsFront gots) l.1 f)) in
    k.4 ∙ (ap₂ (λ g gs. g ∷ gs) both.0 (serves_got t y z received way k.1 l.0 k.3 c k.7 l.2 both.1) ∙ sym l.1)
serves_got t x z (_ ∷ _) way gots gave es c k l f = absurd k

-- Of a ticket whose end was sent, all that was given was got.
pub gone_got : (t : Ticket) (x : HeldState) (received way : List Parcel) (gots gave : List HeldState) (es : List Event) (s : Serving)
    → ClientLane t false (received ++ way) gots es gone → HandlerLane t false x received gave s → IsFront gots gave → gots ≡ gave
gone_got t x [] way gots gave es s k l f = front_of_none gots (subst (IsFront gots) l.0 f) ∙ sym l.0
gone_got t x (parcels.Work chunk ∷ received) way gots gave es s k l f = gone_got t (ran_all x t chunk.items) received way gots gave k.0 s k.3 l f
gone_got t x (parcels.End ∷ received) way gots gave es s k l f = front_of_none gots (subst (IsFront gots) l.1 f) ∙ sym l.1
gone_got t x (parcels.Sync ∷ []) way gots [] es s k l f = front_of_none gots f
gone_got t x (parcels.Sync ∷ []) [] [] (g ∷ gave) es s k l f = absurd (cc (k.1))
gone_got t x (parcels.Sync ∷ []) [] (p ∷ gots) (g ∷ gave) es s k l f = absurd (cc (k.2))
gone_got t x (parcels.Sync ∷ []) (parcels.Home y ∷ way) gots (g ∷ gave) es s k l f =
    let both = front_rest k.0 g k.1 gave (subst (λ q. IsFront q (g ∷ gave)) k.4 f) in
    let none : k.1 ≡ [] = front_of_none k.1 (subst (IsFront k.1) l.1 both.1) in
    k.4 ∙ ap₂ (λ g gs. g ∷ gs) both.0 (none ∙ sym l.1)
gone_got t x (parcels.Sync ∷ (parcels.Home y ∷ received)) way gots gave es s k l f =
    let both = front_rest k.0 x k.1 l.0 (subst (λ g. IsFront g (x ∷ l.0)) k.4 (subst (IsFront gots) l.1 f)) in
    k.4 ∙ (ap₂ (λ g gs. g ∷ gs) both.0 (gone_got t y received way k.1 l.0 k.3 s k.7 l.2 both.1) ∙ sym l.1)
gone_got t x (_ ∷ _) _ gots _ es s k l f = absurd k

-- t is in the list, and no ticket of its client comes after it
abbrev pub LastOf : Ticket → List Ticket → Type 0
LastOf t [] = ⊥
LastOf t (u ∷ us) = ((same t u ≡ false) × LastOf t us) ⊎ ((t ≡ u) × AllByRecursion (λ (v : Ticket). (v.client == t.client) ≡ false) us)

pub none_of : (c : ℕ) (way : Ticket → List Parcel) (us : List Ticket) → AllByRecursion (λ (v : Ticket). (v.client == c) ≡ false) us → flat_map way (filter (λ (u : Ticket). u.client == c) us) ≡ []
none_of c way [] k = refl
none_of c way (u ∷ us) k = rw k.0 (none_of c way us k.1)

-- a parcel more on the way of the client's last ticket is one more at the lane's end
pub last_more : (t : Ticket) (way : Ticket → List Parcel) (p : Parcel) (q : List Ticket) → LastOf t q
    → flat_map (put_at way t (way t ++ p ∷ [])) (filter (λ (u : Ticket). u.client == t.client) q) ≡ flat_map way (filter (λ (u : Ticket). u.client == t.client) q) ++ p ∷ []
last_more t way p [] l = absurd l
last_more t way p (u ∷ us) (inl l) = search (rules, put_at, filter, put_at_there, append_assoc, last_more t way p us l.1)
last_more t way p (u ∷ us) (inr l) =
    subst (λ u. flat_map (put_at way t (way t ++ p ∷ [])) (filter (λ (u : Ticket). u.client == t.client) (u ∷ us)) ≡ flat_map way (filter (λ (u : Ticket). u.client == t.client) (u ∷ us)) ++ p ∷ []) l.0
    (rw (eqb_self t.client) (ap₂ (λ a b. a ++ b) (put_at_here way t (way t ++ p ∷ [])) (none_of t.client (put_at way t (way t ++ p ∷ [])) us l.1)
    ∙ (append-nil (way t ++ p ∷ []) ∙ sym (ap (λ b. (way t ++ b) ++ p ∷ []) (none_of t.client way us l.1) ∙ ap (λ a. a ++ p ∷ []) (append-nil (way t))))))
