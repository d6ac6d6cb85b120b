-- What the code does to its lists of clients and handlers is what the plain rules do to theirs: an item is logged at
-- each handler of a list, or an empty private queue comes to each. The lemmas on the three kinds of steps use this to
-- read the code's state after a step. The proofs go by induction on the list of handlers.
use Rattle.std.proofs.Common.{◌≡◌, ℕ, List, [], ◌∷◌, map, get_or, refl, ap, ◌∙◌, rules}
use Rattle.qs_played.proofs.Names.{AllByRecursion, map-set, map-append, Ticket}
use Rattle.std.proofs.Math.ListN.{set, get_or-map}
use Rattle.qs_plain_laws.proofs.Names.{log_in, enter, at_each, at_handler, put_item}
use Rattle.qs_plain_laws.specs.declared.item.QueueItem.{QueueItem}
use Rattle.qs_plain_laws.specs.audit.Plain as plain
use Rattle.qs_plain.proofs.Names.{ClientState, client_of_state, absent, client_state_at, QueueState, after_put, handler_state_at, nobody, with_logged_item, logged_at, logged_all, with_queue, entered_at, entered_all, HandlerState, handler_of_state}

pub plain_client : (cs : List ClientState) (c : ℕ) → get_or (map client_of_state cs) c plain.no_client ≡ client_of_state (client_state_at cs c)
plain_client cs c = get_or-map client_of_state cs c absent

pub plain_handler : (hs : List HandlerState) (h : ℕ) → plain.handler_at (map handler_of_state hs) h ≡ handler_of_state (handler_state_at hs h)
plain_handler hs h = get_or-map handler_of_state hs h nobody

queues-logged : (t : Ticket) (i : QueueItem) (qs : List QueueState) → map (λ (q : QueueState). q.queue) (map (after_put t i) qs) ≡ map (put_item t i) (map (λ (q : QueueState). q.queue) qs)
queues-logged t i [] = refl
queues-logged t i (q ∷ qs) = ap (λ xs. put_item t i q.queue ∷ xs) (queues-logged t i qs)

handler-logged : (t : Ticket) (i : QueueItem) (x : HandlerState) → handler_of_state (with_logged_item t i x) ≡ log_in t i (handler_of_state x)
handler-logged t i x = λ k. record { queues = queues-logged t i x.queues k; held = x.held }

pub plain-logged_at : (t : Ticket) (i : QueueItem) (hs : List HandlerState) (h : ℕ) → map handler_of_state (logged_at t i hs h) ≡ at_handler (log_in t i) (map handler_of_state hs) h
plain-logged_at t i hs h = search (rules, map-set, set, map, handler-logged, plain_handler)

pub plain-logged_all : (t : Ticket) (i : QueueItem) (hs : List HandlerState) (rs : List ℕ) → map handler_of_state (logged_all t i hs rs) ≡ at_each (log_in t i) (map handler_of_state hs) rs
plain-logged_all t i hs [] = refl
plain-logged_all t i hs (h ∷ rest) = plain-logged_all t i (logged_at t i hs h) rest ∙ ap (λ xs. at_each (log_in t i) xs rest) (plain-logged_at t i hs h)

-- an empty private queue of the ticket
abbrev pub IsEmptyOf : Ticket → ℕ × QueueState → Type 0
IsEmptyOf t q = q.1.queue ≡ record { ticket = t; items = [] }

handler-entered : (t : Ticket) (q : QueueState) (x : HandlerState) → q.queue ≡ record { ticket = t; items = [] } → handler_of_state (with_queue q x) ≡ enter t (handler_of_state x)
handler-entered t q x fresh = search (rules, map-append, map)

pub plain-entered_at : (t : Ticket) (hs : List HandlerState) (q : ℕ × QueueState) → IsEmptyOf t q → map handler_of_state (entered_at hs q) ≡ at_handler (enter t) (map handler_of_state hs) q.0
plain-entered_at t hs q fresh = search (rules, map-set, q, set, map, handler-entered, plain_handler)

pub plain-entered_all : (t : Ticket) (hs : List HandlerState) (qs : List (ℕ × QueueState)) → AllByRecursion (IsEmptyOf t) qs → map handler_of_state (entered_all hs qs) ≡ at_each (enter t) (map handler_of_state hs) (map (λ (q : ℕ × QueueState). q.0) qs)
plain-entered_all t hs [] fresh = refl
plain-entered_all t hs (q ∷ rest) fresh = plain-entered_all t (entered_at hs q) rest fresh.1 ∙ ap (λ xs. at_each (enter t) xs (map (λ (p : ℕ × QueueState). p.0) rest)) (plain-entered_at t hs q fresh.0)
