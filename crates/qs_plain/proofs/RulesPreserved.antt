-- What the code keeps of all its clients and handlers still holds where one client goes on, an item is logged at some
-- handlers, or one handler serves. The lemmas on the three kinds of steps (`RulesBegin`, `RulesGo`, `RulesServe`) use
-- this for all that such a step leaves alone. A client or handler is either the one that changed or as it was.
use Rattle.std.proofs.Common.{◌≡◌, ◌≢◌, ◌<◌, ◌≤◌, ℕ, ◌+◌, ◌-◌, ◌==◌, ◌&&◌, Bool, true, false, ◌⊎◌, List, [], ◌∷◌, map, length, arith, length-set, get_or-set_other, get_or-set_same, rules}
use Rattle.qs_played.proofs.Names.{AllByRecursion, set, sum_by-set, Ticket, same, ticket}
use Rattle.qs_plain_laws.specs.declared.item.QueueItem.{QueueItem}
use Rattle.qs_plain.proofs.Names.{ClientState, client_state_at, load_left, AreApart, QueueState, after_put, handler_state_at, with_logged_item, RulesState, IsRules, IsOpen, to_come, is_in_block, HandlerState}
use Rattle.qs_plain.proofs.handler.HandlersPreserved.{equal_or_not}
use Rattle.qs_plain.proofs.client.OnePlace.{apart_put}

-- what holds of each client still holds with another at c
pub set_cases : (P : ℕ → ClientState → Type 0) (cs : List ClientState) (c : ℕ) (new : ClientState) → c < length cs → P c new → ((k : ℕ) → k ≢ c → k < length cs → P k (client_state_at cs k))
    → (k : ℕ) → k < length (set cs c new) → P k (client_state_at (set cs c new) k)
set_cases P cs c new within here there k less = search (rules, length-set, set, get_or-set_same, get_or-set_other, equal_or_not)

-- a client that goes on in its block, or leaves it
pub record Continues (old new : ClientState) : Type 0 where
  pub program : new.program ≡ old.program
  pub number : new.number ≡ old.number
  pub entries : length new.entries ≡ length old.entries
  pub prepared : length new.prepared ≡ length old.prepared
  pub stays : is_in_block new.stage ≡ true → is_in_block old.stage ≡ true
  pub load : (h : ℕ) → load_left new.frames h ≤ load_left old.frames h

and_left : (a b : Bool) → (a && b) ≡ true → a ≡ true
and_left v b e = search rules

pub same_client : (t u : Ticket) → same t u ≡ true → t.client ≡ u.client
same_client t u e = let e' : (t.client == u.client) ≡ true = and_left (t.client == u.client) (t.index == u.index) e in grind (arith, e')

false_and : (a b : Bool) → a ≡ false → (a && b) ≡ false
false_and v b e = search rules

other_client : (t u : Ticket) → t.client ≢ u.client → same t u ≡ false
other_client t u other = grind (arith, false_and)

module _ (cs : List ClientState) (c : ℕ) (within : c < length cs) (new : ClientState) (continues : Continues (client_state_at cs c) new) where
  pub open_same : (h : ℕ) (q : QueueState) → IsOpen cs h q → IsOpen (set cs c new) h q
  open_same h q opened = record {
    begun = search (rules, set_cases, continues);
    room = set_cases (λ k d. is_in_block d.stage ≡ true → same (ticket k (length d.entries - 1)) q.queue.ticket ≡ true → load_left d.frames h + 1 ≤ q.room) cs c new within
        (λ stays mine. omega (arith, continues.load h, opened.room c within (continues.stays stays) (rw continues.entries at mine)))
        (λ k other less stays mine. opened.room k less stays mine);
  }

  pub open_put : (t : Ticket) (i : QueueItem) (h : ℕ) (q : QueueState) → t ≡ ticket c (length (client_state_at cs c).entries - 1) → (is_in_block new.stage ≡ true → load_left new.frames h + 1 ≤ load_left (client_state_at cs c).frames h)
      → IsOpen cs h q → IsOpen (set cs c new) h (after_put t i q)
  open_put t i h q v asked opened = search (rules, set_cases, continues, other_client, same_client)

  pub all_same : (h : ℕ) (qs : List QueueState) → AllByRecursion (IsOpen cs h) qs → AllByRecursion (IsOpen (set cs c new) h) qs
  all_same h [] each = tt
  all_same h (q ∷ qs) each = (open_same h q each.0, all_same h qs each.1)

  pub all_put : (t : Ticket) (i : QueueItem) (h : ℕ) (qs : List QueueState) → t ≡ ticket c (length (client_state_at cs c).entries - 1) → (is_in_block new.stage ≡ true → load_left new.frames h + 1 ≤ load_left (client_state_at cs c).frames h)
      → AllByRecursion (IsOpen cs h) qs → AllByRecursion (IsOpen (set cs c new) h) (map (after_put t i) qs)
  all_put t i h [] is_t asked each = tt
  all_put t i h (q ∷ qs) is_t asked each = (open_put t i h q is_t asked each.0, all_put t i h qs is_t asked each.1)

  pub same_to_come : to_come (set cs c new) ≡ to_come cs
  same_to_come = grind (arith, sum_by-set, continues)

-- the clients' own numbers and program stay
pub own_after : (r : RulesState) (c : ℕ) (new : ClientState) → IsRules r → c < length r.clients → new.program ≡ (client_state_at r.clients c).program → new.number ≡ (client_state_at r.clients c).number
    → (k : ℕ) → k < length (set r.clients c new) → ((client_state_at (set r.clients c new) k).program ≡ r.program) × ((client_state_at (set r.clients c new) k).number ≡ k)
own_after r c new kept within program number = search (rules, kept, set_cases)

module _ (r : RulesState) (kept : IsRules r) where
  -- only a client has changed
  pub client_kept : (c : ℕ) (new : ClientState) → c < length r.clients → Continues (client_state_at r.clients c) new
      → IsRules (record { program = r.program; order = r.order; clients = set r.clients c new; handlers = r.handlers })
  client_kept c new within continues = search (rules, length-set, kept, own_after, continues, same_to_come, all_same)

  -- an item was logged at some handlers
  pub logged_kept : (c : ℕ) (new : ClientState) (t : Ticket) (i : QueueItem) (hs : List HandlerState) → c < length r.clients → Continues (client_state_at r.clients c) new
      → t ≡ ticket c (length (client_state_at r.clients c).entries - 1) → length hs ≡ length r.handlers
      → ((h : ℕ) → (handler_state_at hs h ≡ handler_state_at r.handlers h) ⊎ (handler_state_at hs h ≡ with_logged_item t i (handler_state_at r.handlers h)))
      → ((h : ℕ) → is_in_block new.stage ≡ true → (handler_state_at hs h ≡ handler_state_at r.handlers h) ⊎ (load_left new.frames h + 1 ≤ load_left (client_state_at r.clients c).frames h))
      → IsRules (record { program = r.program; order = r.order; clients = set r.clients c new; handlers = hs })
  logged_kept c new t i hs within continues v long each asked = search (rules, length-set, kept, own_after, continues, set, same_to_come, apart_put, all_same, all_put)

  -- the handler's first private queue became shorter, or went away
  pub served_kept : (h : ℕ) (new : HandlerState) → h < length r.handlers → (handler_state_at r.handlers h).room ≤ new.room → AllByRecursion (IsOpen r.clients h) new.queues → AreApart new.queues
      → IsRules (record { program = r.program; order = r.order; clients = r.clients; handlers = set r.handlers h new })
  served_kept h new within room queues apart = grind (arith, kept, length-set, equal_or_not, set, get_or-set_same, get_or-set_other)
