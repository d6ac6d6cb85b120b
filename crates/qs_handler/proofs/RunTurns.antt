-- A handler's whole run is a turn for each ticket: by induction over its tasks, from the last to the first. While a
-- block is served, what is to come is the rest of its turn, by the state that the handler is in, and then the turns of
-- the tickets after it.
use Rattle.std.proofs.Common.{◌≡◌, ℕ, Bool, true, false, ◌==◌, if◌then◌else◌, List, [], ◌∷◌, ◌++◌, map, flat_map, refl, sym, ap, ◌∙◌, subst, Some, rules}
use Rattle.qs_objects.specs.audit.Journals.{HeldState}
use Rattle.qs_objects.specs.declared.held.Next.TheVariants.{Ticket, Closed}
use Rattle.qs_objects.specs.declared.held.Ticket as tickets
use Rattle.qs_chunk.specs.LaneViews.{HandlerLane, over}
use Rattle.qs_chunk.specs.declared.parcel.Parcel.{Parcel}
use Rattle.qs_chunk.specs.declared.parcel.Parcel.TheVariants.{Home, End}
use Rattle.qs_handler.specs.audit.Handler as handlers
use Rattle.qs_handler.specs.audit.Handler.{Handler, free, serves, away, closed, act_of, gave, accept_next, accept_parcel}
use Rattle.qs_handler.specs.audit.HandlerRuns.{Task, takes, receives, gives, spares, TasksLead, received_from, given_to, taken_by}
use Rattle.qs_handler.specs.HandlerTurns.{Turn, TurnsLead, turns_for, HasTurns, HandlersTakeTurns}

-- what is left of a ticket's turn, and the turns after it; the rest of the turn leads as the handler's state says
record RestOf (t : tickets.Ticket) (Leads : List Parcel → List HeldState → HeldState → Type 0) (tasks : List Task) (z : HeldState) : Type 0 where
  parcels : List Parcel
  objects : List HeldState
  left : HeldState
  turns : List Turn
  rest : Leads parcels objects left
  lead : TurnsLead left turns z
  taken : taken_by tasks ≡ map (λ (u : Turn). Ticket u.ticket) turns ++ Closed ∷ []
  received : (c : ℕ) → received_from c tasks
      ≡ (if t.client == c then parcels else []) ++ flat_map (λ (u : Turn). u.received) (turns_for c turns)
  given : (c : ℕ) → given_to c tasks
      ≡ (if t.client == c then objects else []) ++ flat_map (λ (u : Turn). u.gave) (turns_for c turns)

-- the rest of a turn: of a handler that has the object; that is to give it; and that gave it, whatever it gave
abbrev Has : tickets.Ticket → HeldState → List Parcel → List HeldState → HeldState → Type 0
Has t x parcels objects y = HandlerLane t false x parcels objects (over y)

abbrev Owes : tickets.Ticket → HeldState → List Parcel → List HeldState → HeldState → Type 0
Owes t x parcels objects y = HandlerLane t true x parcels objects (over y)

abbrev Lent : tickets.Ticket → List Parcel → List HeldState → HeldState → Type 0
Lent t parcels objects y = (x : HeldState) → HandlerLane t true x parcels (x ∷ objects) (over y)

-- what is to come, by the handler's state
abbrev Comes : Handler → List Task → HeldState → Type 0
Comes (free x) tasks z = HasTurns x tasks z
Comes (serves t x) tasks z = RestOf t (Has t x) tasks z
Comes (handlers.spares t x n) tasks z = RestOf t (Has t x) tasks z
Comes (handlers.gives t x) tasks z = RestOf t (Owes t x) tasks z
Comes (away t) tasks z = RestOf t (Lent t) tasks z
Comes (closed x) tasks z = (tasks ≡ []) × (x ≡ z)

-- what a client's turns have, with one more turn before them
first_turn : {A : Type 0} (f : Turn → List A) (u : Turn) (us : List Turn) (c : ℕ)
    → flat_map f (turns_for c (u ∷ us)) ≡ (if u.ticket.client == c then f u else []) ++ flat_map f (turns_for c us)
first_turn f u us c = search rules

-- one more value of a client, before those of its turn
one_more : {A : Type 0} (b : Bool) (x : A) (xs ys all : List A)
    → all ≡ (if b then xs else []) ++ ys → (if b then x ∷ all else all) ≡ (if b then x ∷ xs else []) ++ ys
one_more b x xs ys all e = search rules

nothing_more : {A : Type 0} (b : Bool) (ys : List A) → ys ≡ (if b then [] else []) ++ ys
nothing_more b ys = search rules

-- a ticket is taken: its turn is whole
takes_ticket : (t : tickets.Ticket) (x : HeldState) (tasks : List Task) (z : HeldState)
    → Comes (serves t x) tasks z → HasTurns x (takes (Ticket t) ∷ tasks) z
takes_ticket t x tasks z k =
    let u : Turn = record { ticket = t; received = k.parcels; gave = k.objects } in
    record {
      turns = u ∷ k.turns;
      lead = (k.left, k.rest, k.lead);
      taken = ap (λ ns. Ticket t ∷ ns) k.taken;
      received = λ c. k.received c ∙ sym (first_turn (λ (u : Turn). u.received) u k.turns c);
      given = λ c. k.given c ∙ sym (first_turn (λ (u : Turn). u.gave) u k.turns c);
    }

-- no further ticket comes: nothing follows
takes_closed : (x : HeldState) (tasks : List Task) (z : HeldState) → Comes (closed x) tasks z → HasTurns x (takes Closed ∷ tasks) z
takes_closed x tasks z k = search rules

module _ (t : tickets.Ticket) (Leads Led : List Parcel → List HeldState → HeldState → Type 0) (tasks : List Task) (z : HeldState) where
  parcel_more : (p : Parcel) → ((ps : List Parcel) (xs : List HeldState) (y : HeldState) → Leads ps xs y → Led (p ∷ ps) xs y)
      → RestOf t Leads tasks z → RestOf t Led (receives t.client p ∷ tasks) z
  parcel_more p leads k = search rules

  object_more : (x : HeldState) → ((ps : List Parcel) (xs : List HeldState) (y : HeldState) → Leads ps xs y → Led ps (x ∷ xs) y)
      → RestOf t Leads tasks z → RestOf t Led (gives t.client x ∷ tasks) z
  object_more x leads k = search rules

-- an empty chunk that goes back changes nothing of the turn
chunk_more : (t : tickets.Ticket) (Leads : List Parcel → List HeldState → HeldState → Type 0) (task : Task) (tasks : List Task) (z : HeldState)
    → taken_by (task ∷ tasks) ≡ taken_by tasks → ((c : ℕ) → received_from c (task ∷ tasks) ≡ received_from c tasks)
    → ((c : ℕ) → given_to c (task ∷ tasks) ≡ given_to c tasks) → RestOf t Leads tasks z → RestOf t Leads (task ∷ tasks) z
chunk_more t Leads task tasks z no_ticket no_parcel no_object k = search rules

-- the End ends the turn, and the next ones are those of a free handler
end_more : (t : tickets.Ticket) (x : HeldState) (tasks : List Task) (z : HeldState)
    → HasTurns x tasks z → Comes (serves t x) (receives t.client End ∷ tasks) z
end_more t x tasks z k = record {
  parcels = End ∷ [];
  objects = [];
  left = x;
  turns = k.turns;
  rest = (refl, refl, refl);
  lead = k.lead;
  taken = k.taken;
  received = λ c.
      one_more (t.client == c) End [] (flat_map (λ (u : Turn). u.received) (turns_for c k.turns)) (received_from c tasks)
      (k.received c ∙ nothing_more (t.client == c) (flat_map (λ (u : Turn). u.received) (turns_for c k.turns)));
  given = λ c. k.given c ∙ nothing_more (t.client == c) (flat_map (λ (u : Turn). u.gave) (turns_for c k.turns));
}

-- the state that a parcel led to is the one that stands in the equation
comes_of : (h new : Handler) (tasks : List Task) (z : HeldState) → Some h ≡ Some new → Comes new tasks z → Comes h tasks z
comes_of h new tasks z e k = subst (λ m. Comes m tasks z) (cc (e)) k

serves_on : (t : tickets.Ticket) (x : HeldState) (p : Parcel) (new : Handler) (tasks : List Task) (z : HeldState)
    → accept_parcel (serves t x) p ≡ Some new → Comes new tasks z → Comes (serves t x) (receives t.client p ∷ tasks) z
serves_on t x (Home y) new tasks z e k = absurd (cc (e))
serves_on t x End new tasks z e k = end_more t x tasks z (comes_of (free x) new tasks z e k)
serves_on t x _ new tasks z e k = search (rules, parcel_more, comes_of)

comes_home : (t : tickets.Ticket) (p : Parcel) (new : Handler) (tasks : List Task) (z : HeldState)
    → accept_parcel (away t) p ≡ Some new → Comes new tasks z → Comes (away t) (receives t.client p ∷ tasks) z
comes_home t (Home y) new tasks z e k = search (rules, parcel_more, comes_of)
comes_home t _ new tasks z e k = absurd (cc (e))

run_comes : (tasks : List Task) (h : Handler) (z : HeldState) → TasksLead h tasks (closed z) → Comes h tasks z
run_comes [] (closed x) z leads = (refl, cc (leads))
run_comes (takes (Ticket t) ∷ tasks) (free x) z leads =
    takes_ticket t x tasks z (comes_of (serves t x) leads.0 tasks z leads.1 (run_comes tasks leads.0 z leads.2))
run_comes (takes Closed ∷ tasks) (free x) z leads =
    takes_closed x tasks z (comes_of (closed x) leads.0 tasks z leads.1 (run_comes tasks leads.0 z leads.2))
run_comes (takes next ∷ tasks) _ z leads = absurd (cc (leads.1))
run_comes (receives c p ∷ tasks) (serves t x) z leads = search (rules, serves_on, run_comes tasks leads.0 z leads.3)
run_comes (receives c p ∷ tasks) (away t) z leads = search (rules, comes_home, run_comes tasks leads.0 z leads.3)
run_comes (receives c p ∷ tasks) _ z leads = absurd (cc (leads.1))
run_comes (gives c y ∷ tasks) (handlers.gives t x) z leads =
    search (rules, object_more, run_comes tasks (away t) z leads.1)
run_comes (spares c chunk ∷ tasks) (handlers.spares t x n) z leads =
    chunk_more t (Has t x) (spares c chunk) tasks z refl (λ c. refl) (λ c. refl) (run_comes tasks (serves t x) z leads.1)
run_comes (_ ∷ tasks) _ z leads = absurd (cc (leads.0))
run_comes [] _ z leads = absurd (cc (leads))

pub handlers_take_turns : HandlersTakeTurns
handlers_take_turns x z tasks leads = run_comes tasks (free x) z leads
