-- Both ends of a lane, compared, where the handler has taken all that was sent. A client that asked for the object was
-- heard: the handler does not serve on. A handler that is to give its object has given nothing that still lies there.
-- The proofs go by induction on what the handler received, where each Sync is met by an object that was given.
use Rattle.std.proofs.Common.{◌≡◌, false, List, [], ◌∷◌, ◌++◌, sym, ap, ◌∙◌, rules, arith}
use Rattle.qs_played.proofs.Names.{HeldState, Event, Ticket}
use Rattle.qs_core_laws.proofs.Names.{ran_all, ObjectStance, asks, ClientLane, HandlerLane, HandlerGives, Parcel}
use Rattle.qs_chunk.specs.LaneViews as views
use Rattle.qs_chunk.specs.declared.parcel.Parcel.TheVariants as parcels

tail_is : (a b : HeldState) (xs ys : List HeldState) → a ∷ xs ≡ b ∷ ys → xs ≡ ys
tail_is a b xs ys e = cc

no_more : (more up : List HeldState) → [] ≡ more ++ up → up ≡ []
no_more [] up e = sym e
no_more (m ∷ more) up e = absurd (cc)

-- a Sync was taken last: the handler gives its object, or gave it
gives_not_serves : (x z : HeldState) (gave : List HeldState) → HandlerGives x gave (views.serves z) → ⊥
gives_not_serves x z v l = search rules

-- a client that asks, and a handler that has taken all and serves: that can't be
pub asks_not_served : (t : Ticket) (x z : HeldState) (sent : List Parcel) (gots gave : List HeldState) (es : List Event)
    → ClientLane t false sent gots es asks → HandlerLane t false x sent gave (views.serves z) → ⊥
asks_not_served t x z [] gots gave es k l = cc (k.1)
asks_not_served t x z (parcels.Work chunk ∷ sent) gots gave es k l = search (rules, asks_not_served t (ran_all x t chunk.items) z sent gots gave k.0 k.3 l)
asks_not_served t x z (parcels.End ∷ sent) gots gave es k l = cc (k.3)
asks_not_served t x z (parcels.Sync ∷ []) gots gave es k l = gives_not_serves x z gave l
asks_not_served t x z (parcels.Sync ∷ (parcels.Home y ∷ sent)) gots gave es k l = search (rules, asks_not_served t y z sent k.1 l.0 k.3 k.7 l.2)
asks_not_served t x z (_ ∷ _) gots gave es k l = k

gives_last : (x z : HeldState) (gots gave up : List HeldState) → HandlerGives x gave (views.gives z) → gave ≡ gots ++ up
    → up ≡ []
gives_last x z gots v up l e = search (rules, no_more)

-- where a handler is to give its object, all that it gave was got
pub gives_up : (t : Ticket) (x z : HeldState) (received way : List Parcel) (gots gave up : List HeldState) (es : List Event) (c : ObjectStance)
    → ClientLane t false (received ++ way) gots es c → HandlerLane t false x received gave (views.gives z)
    → gave ≡ gots ++ up → up ≡ []
gives_up t x z [] way gots gave up es c k l e = absurd (cc (l.1))
gives_up t x z (parcels.Work chunk ∷ received) way gots gave up es c k l e = search (rules, gives_up t (ran_all x t chunk.items) z received way gots gave up k.0 c k.3 l e)
gives_up t x z (parcels.End ∷ received) way gots gave up es c k l e = absurd (cc (l.2))
gives_up t x z (parcels.Sync ∷ []) way gots gave up es c k l e = gives_last x z gots gave up l e
gives_up t x z (parcels.Sync ∷ (parcels.Home y ∷ received)) way gots gave up es c k l e = search (rules, tail_is, gives_up t y z received way k.1 l.0 up k.3 c k.7 l.2 (tail_is x k.0 l.0 (k.1 ++ up) (sym l.1 ∙ (e ∙ ap (λ gs. gs ++ up) k.4))))
gives_up t x z (_ ∷ _) way gots gave up es c k l e = absurd k
