-- As a client begins a block, what the code keeps still holds, and the step is that of the plain rules. The contract of
-- `separate` promises both. What was prepared for the block has the room that it needs; each handler either got one new
-- private queue or is as it was, and the blocks still to come are one fewer, so each handler has room for the rest.
use Rattle.std.proofs.Common.{◌≡◌, ◌≢◌, ◌<◌, ◌≤◌, ℕ, ◌+◌, ◌==◌, ◌&&◌, Bool, true, ◌⊎◌, inl, inr, List, [], ◌∷◌, ◌++◌, map, length, ap, sym, subst, ◌∙◌, arith, length-set, add-zero, Some, nat_lt, rules}
use Rattle.std.specs.List.{AllByRecursion, IsDistinct}
use Rattle.qs_played.proofs.Names.{set, length-append, length-map, map-append, map-set, sum_by-set, Ticket, same, load_of, BlockShape, block_at, blocks_of, IsSound, IsSoundBlock, sound_block, tree_of, ticket}
use Rattle.qs_played.specs.declared.schedule.actor.Actor.TheVariants as actor
use Rattle.qs_plain_laws.specs.audit.Plain.{Client, step, client_step, at_each, enter}
use Rattle.qs_plain_laws.specs.audit.Plain as plain
use Rattle.qs_plain.specs.client.ClientMoves.{Begins}
use Rattle.qs_plain.proofs.Names.{ClientState, IsClient, IsReady, block_of_state, client_of_state, stage_of, client_state_at, rest, load_left, AreApart, QueueState, IsReadyQueue, handler_state_at, with_queue, entered_all, CanEnter, CanEnterAll, RulesState, IsRules, IsOpen, to_come, plain_of}
use Rattle.qs_plain.proofs.client.FrameMoves.{AllByRecursion-push}
use Rattle.qs_plain.specs.declared.client.stage.Stage.TheVariants as stage
use Rattle.qs_plain.proofs.handler.HandlersPreserved.{entered_each, length-entered_all}
use Rattle.qs_plain.proofs.client.OnePlace.{apart_push}
use Rattle.qs_plain.proofs.RulesPreserved.{set_cases, own_after, same_client}
use Rattle.qs_plain.proofs.RulesSteps.{IsEmptyOf, plain_client, plain-entered_all}

pub each_implies : {X : Type 0} (P Q : X → Type 0) (xs : List X) → ((x : X) → P x → Q x) → AllByRecursion P xs → AllByRecursion Q xs
each_implies P Q [] implies each = tt
each_implies P Q (x ∷ xs) implies each = (implies x each.0, each_implies P Q xs implies each.1)

and_right : (a b : Bool) → (a && b) ≡ true → b ≡ true
and_right v b e = search rules

same_index : (t u : Ticket) → same t u ≡ true → t.index ≡ u.index
same_index t u e = let e' : (t.index == u.index) ≡ true = and_right (t.client == u.client) (t.index == u.index) e in grind (arith, e')

module _ (r : RulesState) (kept : IsRules r) (sound : IsSound r.program) (c : ℕ) (within : c < length r.clients)
    (isc : IsClient (client_state_at r.clients c)) (out : (client_state_at r.clients c).stage ≡ stage.Out)
    (queues : List (ℕ × QueueState)) (new : ClientState) (begins : Begins (client_state_at r.clients c) queues new) where
  abbrev old : ClientState
  old = client_state_at r.clients c

  abbrev here : ℕ
  here = length old.entries

  -- the block that begins
  abbrev pub block : BlockShape
  block = block_at r.program c here

  more : length old.prepared ≡ length new.prepared + 1
  more = ap length begins.prepared ∙ omega arith

  longer : length new.entries ≡ here + 1
  longer = ap (λ (d : ClientState). length d.entries) begins.client ∙ length-append old.entries (old.locals ∷ [])

  pub in_range : here < blocks_of r.program c
  in_range = grind (arith, kept, here, isc, more)

  pub block_sound : IsSoundBlock r.program.objects block
  block_sound = sound_block r.program c here sound (omega (arith, kept.clients, within)) in_range

  pub same_block : block_of_state old here ≡ block
  same_block = let owned = kept.own c within in λ i. block_at (owned.0 i) (owned.1 i) here

  pub ready : IsReady c here old.depth block begins.first
  ready = grind (arith, isc, begins, more, old, add-zero, here, kept, block, same_block)

  pub objects : map (λ (q : ℕ × QueueState). q.0) queues ≡ block.reserved
  objects = ap (map (λ (q : ℕ × QueueState). q.0)) begins.handed ∙ ready.stocked.objects

  pub fresh_queues : AllByRecursion (IsReadyQueue c here block) queues
  fresh_queues = subst (AllByRecursion (IsReadyQueue c here block)) (sym begins.handed) ready.stocked.queues

  pub empty_queues : AllByRecursion (IsEmptyOf (ticket c here)) queues
  empty_queues = each_implies (IsReadyQueue c here block) (IsEmptyOf (ticket c here)) queues (λ q fresh. fresh.0) fresh_queues

  pub fewer : to_come (set r.clients c new) + 1 ≡ to_come r.clients
  fewer = grind (arith, sum_by-set, more)

  inside : AllByRecursion (λ h. h < length r.handlers) (map (λ (q : ℕ × QueueState). q.0) queues)
  inside = subst (AllByRecursion (λ h. h < length r.handlers)) (sym objects) (subst (λ n. AllByRecursion (λ h. h < n) block.reserved) (sym kept.handlers) block_sound.reserved)

  distinct : IsDistinct ◌==◌ (map (λ (q : ℕ × QueueState). q.0) queues)
  distinct = subst (IsDistinct ◌==◌) (sym objects) block_sound.distinct

  pub can_enter : CanEnterAll r.handlers (map (λ (q : ℕ × QueueState). q.0) queues)
  can_enter = (each_implies (λ h. h < length r.handlers) (CanEnter r.handlers) (map (λ (q : ℕ × QueueState). q.0) queues) (λ h less. (less, omega (arith, kept.rooms h less, fewer))) inside, distinct)

  alone : new.frames ≡ rest block.body ∷ []
  alone = search (rules, old, isc, begins, here, same_block)

  load_now : (h : ℕ) → load_left new.frames h ≤ load_of block.body h
  load_now h = subst (λ fs. load_left fs h ≤ load_of block.body h) (sym alone) (omega arith)

  -- a private queue that was there
  open_still : (h : ℕ) (q : QueueState) → IsOpen r.clients h q → IsOpen (set r.clients c new) h q
  open_still h q opened = search (rules, set_cases, q, longer, same_index, same_client)

  -- the private queue that came
  open_new : (h : ℕ) (q : QueueState) → IsReadyQueue c here block (h, q) → IsOpen (set r.clients c new) h q
  open_new h q fresh = search (rules, q, here, set_cases, longer, load_now, same_client)

  pub begun_rules : (order : List Ticket) → IsRules (record { program = r.program; order = order; clients = set r.clients c new; handlers = entered_all r.handlers queues })
  begun_rules order = record {
    clients = length-set r.clients c new ∙ kept.clients;
    own = own_after r c new kept within (ap (λ (d : ClientState). d.program) begins.client) (ap (λ (d : ClientState). d.number) begins.client);
    handlers = length-entered_all r.handlers queues ∙ kept.handlers;
    rooms = λ h less. rooms_after h (rw length-entered_all at less) (entered_each (λ h q. IsReadyQueue c here block (h, q)) r.handlers queues fresh_queues distinct inside h);
    queues = λ h less. queues_after h (rw length-entered_all at less) (entered_each (λ h q. IsReadyQueue c here block (h, q)) r.handlers queues fresh_queues distinct inside h);
    apart = λ h less. apart_after h (rw length-entered_all at less) (entered_each (λ h q. IsReadyQueue c here block (h, q)) r.handlers queues fresh_queues distinct inside h);
  }
    where
      rooms_after : (h : ℕ) → h < length r.handlers
          → (handler_state_at (entered_all r.handlers queues) h ≡ handler_state_at r.handlers h) ⊎ ((q : QueueState) × IsReadyQueue c here block (h, q) × (handler_state_at (entered_all r.handlers queues) h ≡ with_queue q (handler_state_at r.handlers h)))
          → to_come (set r.clients c new) ≤ (handler_state_at (entered_all r.handlers queues) h).room
      rooms_after h less v = grind (arith, fewer, kept)

      -- a block that was begun before has a lower number
      older : (h : ℕ) (q x : QueueState) → IsReadyQueue c here block (h, q) → IsOpen r.clients h x → x.queue.ticket ≢ q.queue.ticket
      older h q x fresh opened is = grind (arith, here)

      apart_after : (h : ℕ) → h < length r.handlers
          → (handler_state_at (entered_all r.handlers queues) h ≡ handler_state_at r.handlers h) ⊎ ((q : QueueState) × IsReadyQueue c here block (h, q) × (handler_state_at (entered_all r.handlers queues) h ≡ with_queue q (handler_state_at r.handlers h)))
          → AreApart (handler_state_at (entered_all r.handlers queues) h).queues
      apart_after h less (inl as_it_was) = rw as_it_was (kept.apart h less)
      apart_after h less (inr (q, fresh, came)) =
          rw came (apart_push (handler_state_at r.handlers h).queues q (kept.apart h less)
          (each_implies (IsOpen r.clients h) (λ (x : QueueState). x.queue.ticket ≢ q.queue.ticket) (handler_state_at r.handlers h).queues (λ x opened. older h q x fresh opened) (kept.queues h less)))

      queues_after : (h : ℕ) → h < length r.handlers
          → (handler_state_at (entered_all r.handlers queues) h ≡ handler_state_at r.handlers h) ⊎ ((q : QueueState) × IsReadyQueue c here block (h, q) × (handler_state_at (entered_all r.handlers queues) h ≡ with_queue q (handler_state_at r.handlers h)))
          → AllByRecursion (IsOpen (set r.clients c new) h) (handler_state_at (entered_all r.handlers queues) h).queues
      queues_after h less v = search (rules, each_implies, set, open_still, kept, AllByRecursion-push, open_new)

  abbrev pub after : List Ticket → RulesState
  after order = record { program = r.program; order = order; clients = set r.clients c new; handlers = entered_all r.handlers queues }

  new_client : client_of_state new ≡ plain.begins (client_of_state old) old.locals (tree_of block.body old.locals) block.reserved
  new_client = search (rules, old, isc, here, same_block, map, begins, map-append, plain.within)

  separates : plain.separate r.program (plain_of r) c (client_of_state old) old.locals ≡ plain_of (after (r.order ++ ticket c here ∷ []))
  separates = search (rules, here, set, map, new_client, map-set, objects, plain-entered_all, empty_queues)

  steps_out : client_step r.program (plain_of r) c (client_of_state old) (stage_of stage.Out old.frames old.locals) ≡ Some (plain_of (after (r.order ++ ticket c here ∷ [])))
  steps_out = grind (arith, here, in_range, separates)

  pub separate_steps : step r.program (plain_of r) (actor.Client c) ≡ Some (plain_of (after (r.order ++ ticket c here ∷ [])))
  separate_steps =
      let there : nat_lt c (length (map client_of_state r.clients)) ≡ true = rw length-map (grind (arith, within)) in
      rw there
      (subst (λ (it : Client). client_step r.program (plain_of r) c it it.stage ≡ Some (plain_of (after (r.order ++ ticket c here ∷ [])))) (sym (plain_client r.clients c))
      (subst (λ s. client_step r.program (plain_of r) c (client_of_state old) (stage_of s old.frames old.locals) ≡ Some (plain_of (after (r.order ++ ticket c here ∷ [])))) (sym out) steps_out))
