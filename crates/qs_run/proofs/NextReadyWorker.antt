-- What the loops of `make_workers` take for the next worker is its own. They go through the parts of a run from the
-- front, and take from the desk's places what lies at the number of the worker. As the parts are in the order of the
-- workers and the desk's places are filled for all of them, the next object or mind, the next row of lanes, and the
-- tickets or the share are those of one handler or client.
use Rattle.std.proofs.Common.{◌≡◌, ◌≢◌, ℕ, zero, suc, ◌+◌, ◌<◌, ◌≤◌, List, [], ◌∷◌, map, length, drop, get_or, set, Option, Some, None, sym, ap, ◌∙◌, arith, rules}
use Rattle.qs_run.proofs.Names.{ClientWorker, HandlerWorker, HeldState, InView, IsClientOf, IsHandlerOf, IsListOf, IsMindAtStart, IsNewIn, IsNewOut, IsObjectAtStart, IsSound, MindState}
use Rattle.qs_run.proofs.Names.{Mode, OutView, ProgramShape, ShareView, TicketsView, ever_reserves, get_or-set_other, get_or_from_slice_get, in_at, none-some, out_at, places, same_Some}
use Rattle.qs_run.proofs.Names.{share_at, slice_get_within, tickets_at}
use Rattle.qs_run.proofs.ListPlaces.{at_front}
use Rattle.qs_run.proofs.ReadyWorkers.{client_of, handler_of}
use Rattle.qs_run.proofs.DeskStart.{share_there, tickets_there}

-- what is there is read alike with any default
found : {X : Type 0} (xs : List (Option X)) (n : ℕ) (d : Option X) (x : X) → get_or xs n None ≡ Some x → get_or xs n d ≡ Some x
found [] n d x is = absurd (none-some x is)
found (y ∷ ys) zero d x is = is
found (y ∷ ys) (suc n) d x is = found ys n d x is

-- once what lay at a place was taken, what lies past it is as it was
pub rest_after : {X : Type 0} (xs ys : List (Option X)) (n : ℕ) (a : Option X) → ((h : ℕ) → n ≤ h → get_or xs h None ≡ get_or ys h None)
    → (h : ℕ) → n + 1 ≤ h → get_or (set xs n a) h None ≡ get_or ys h None
rest_after xs ys n a same h past =
    let other : h ≢ n = omega (arith, past) in
    get_or-set_other xs n h a None other ∙ same h (omega (arith, past))

-- the share of a client that the program has, and the tickets of a handler
pub share_found : (p : ProgramShape) (shares left : List (Option ShareView)) (c : ℕ) (d : Option ShareView) → IsSound p → c < length p.clients
    → shares ≡ map (share_at p) places → get_or left c None ≡ get_or shares c None → get_or left c d ≡ Some (record { client = c; count = 0 })
share_found p shares left c d sound less all same =
    found left c d (record { client = c; count = 0 }) (same ∙ ap (λ (xs : List (Option ShareView)). get_or xs c None) all ∙ share_there p c sound.clients less)

pub tickets_found : (p : ProgramShape) (tickets left : List (Option TicketsView)) (h : ℕ) (d : Option TicketsView) → IsSound p → h < length p.objects
    → tickets ≡ map (tickets_at p) places → get_or left h None ≡ get_or tickets h None → get_or left h d ≡ Some (record { handler = h; taken = [] })
tickets_found p tickets left h d sound less all same =
    found left h d (record { handler = h; taken = [] }) (same ∙ ap (λ (xs : List (Option TicketsView)). get_or xs h None) all ∙ tickets_there p h sound.objects less)

module _ {D : Type 0} where
  -- the worker that is made of them
  pub handler_here : (p : ProgramShape) (helds : List HeldState) (ins : List (List (Option InView))) (tickets left : List (Option TicketsView))
      (h : ℕ) (w : HandlerWorker D) (d : Option TicketsView) (other_helds : List HeldState) (other_ins : List (List (Option InView)))
      → IsSound p → IsListOf (length p.objects) (IsObjectAtStart p) helds
      → ((c k : ℕ) → IsNewIn (ever_reserves p c k) (in_at ins c k)) → tickets ≡ map (tickets_at p) places
      → drop h helds ≡ w.held ∷ other_helds → drop h ins ≡ w.lanes ∷ other_ins
      → get_or left h None ≡ get_or tickets h None → get_or left h d ≡ Some w.tickets
      → IsHandlerOf p ins h w
  handler_here p helds ins tickets left h w d other_helds other_ins sound own made all front front_ins same taken =
      let at = at_front helds h w.held other_helds front in
      let within = slice_get_within helds h w.held at in
      let first : Some w.tickets ≡ Some (record { handler = h; taken = [] }) = sym taken ∙ tickets_found p tickets left h d sound (omega (arith, within, own.many)) all same in
      handler_of p ins h w sound made (own.each h w.held at) (same_Some w.tickets (record { handler = h; taken = [] }) first)
      (sym (get_or_from_slice_get ins h w.lanes [] (at_front ins h w.lanes other_ins front_ins)))

  pub client_here : (p : ProgramShape) (mode : Mode) (size : ℕ) (minds : List MindState) (outs : List (List (Option OutView))) (shares left : List (Option ShareView))
      (c : ℕ) (w : ClientWorker D) (d : Option ShareView) (other_minds : List MindState) (other_outs : List (List (Option OutView)))
      → IsSound p → IsListOf (length p.clients) (IsMindAtStart p mode size) minds
      → ((k h : ℕ) → IsNewOut size (ever_reserves p k h) (out_at outs k h)) → shares ≡ map (share_at p) places
      → drop c minds ≡ w.mind ∷ other_minds → drop c outs ≡ w.lanes ∷ other_outs
      → get_or left c None ≡ get_or shares c None → get_or left c d ≡ Some w.share
      → IsClientOf p mode size outs c w
  client_here p mode size minds outs shares left c w d other_minds other_outs sound own made all front front_outs same taken =
      let at = at_front minds c w.mind other_minds front in
      let within = slice_get_within minds c w.mind at in
      let first : Some w.share ≡ Some (record { client = c; count = 0 }) = sym taken ∙ share_found p shares left c d sound (omega (arith, within, own.many)) all same in
      client_of p mode size outs c w sound made (own.each c w.mind at) (same_Some w.share (record { client = c; count = 0 }) first)
      (sym (get_or_from_slice_get outs c w.lanes [] (at_front outs c w.lanes other_outs front_outs)))
