-- The parcel that lies first in a lane may be handed to the mind of a handler that wants one. The code's call
-- `take_parcel` hands it on, and the mind asks for this. What is known speaks of the mind together with what its act
-- carries; an act that takes a parcel carries nothing, so this is the mind itself, by cases on its state.
use Rattle.std.proofs.Common.{◌≡◌, ℕ, true, refl, ap, ◌∙◌, subst, ◌∷◌, List}
use Rattle.qs_played.proofs.Names.{HeldState, IsTrue}
use Rattle.qs_core_laws.proofs.Names.{may_stand, Parcel, is_away, serving, with_act}
use Rattle.qs_handler.specs.audit.Handler.{Handler, free, serves, spares, gives, away, closed, act_of}
use Rattle.qs_handler.specs.declared.mind.Act.{Act}
use Rattle.qs_handler.specs.declared.mind.Act.TheVariants as acts
use Rattle.qs_core.specs.parts.CoreHandlers.{CoreHandlerState, MayCome, takes_ticket}
use Rattle.qs_core.specs.parts.LaneStates.{LaneState}

pub carries_no_parcel : (h : Handler) (c : ℕ) → with_act h (acts.TakeParcel c) ≡ h
carries_no_parcel (free x) c = refl
carries_no_parcel (serves t x) c = refl
carries_no_parcel (spares t x n) c = refl
carries_no_parcel (gives t x) c = refl
carries_no_parcel (away t) c = refl
carries_no_parcel (closed x) c = refl

-- the parcel that comes first may stand there
pub first_may_stand : (s : CoreHandlerState) (l : LaneState) (c : ℕ) (p : Parcel) (ps : List Parcel)
    → MayCome s l → s.act ≡ acts.TakeParcel c → l.down ≡ p ∷ ps → IsTrue (may_stand (is_away s.mind) p)
first_may_stand s l c p ps comes asked is =
    subst (λ h. IsTrue (may_stand (is_away h) p)) (ap (with_act s.mind) asked ∙ carries_no_parcel s.mind c) (comes c p ps asked is)

-- the block that a handler serves is that of its mind, whatever its act carries
pub serving_behind : (h : Handler) (a : Act) → serving (with_act h a) ≡ serving h
serving_behind (free x) a = refl
serving_behind (serves t x) acts.TakeTicket = refl
serving_behind (serves t x) (acts.TakeParcel c) = refl
serving_behind (serves t x) (acts.Give c y) = refl
serving_behind (serves t x) (acts.Spare c chunk) = refl
serving_behind (serves t x) acts.Closed = refl
serving_behind (spares t x n) a = refl
serving_behind (gives t x) a = refl
serving_behind (away t) acts.TakeTicket = refl
serving_behind (away t) (acts.TakeParcel c) = refl
serving_behind (away t) (acts.Give c y) = refl
serving_behind (away t) (acts.Spare c chunk) = refl
serving_behind (away t) acts.Closed = refl
serving_behind (closed x) a = refl

-- a handler that takes a ticket next is free
pub free_behind : (h : Handler) (a : Act) → takes_ticket a ≡ true → a ≡ act_of (with_act h a) → (x : HeldState) × (h ≡ free x)
free_behind (free x) acts.TakeTicket takes is = (x, refl)
free_behind (serves t x) acts.TakeTicket takes is = cc
free_behind (spares t x n) acts.TakeTicket takes is = cc
free_behind (gives t x) acts.TakeTicket takes is = cc
free_behind (away t) acts.TakeTicket takes is = cc
free_behind (closed x) acts.TakeTicket takes is = cc
free_behind h (acts.TakeParcel c) takes is = cc
free_behind h (acts.Give c x) takes is = cc
free_behind h (acts.Spare c chunk) takes is = cc
free_behind h acts.Closed takes is = cc
