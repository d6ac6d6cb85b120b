-- As a client goes on in its block, by a command, a query or the block's end, what the code keeps still holds, and the
-- step is that of the plain rules. The contract of `go_on` promises both. An item more in a private queue is met by a
-- request less in the load that is left of the block, so the queues' room suffices; the end mark has its own place.
use Rattle.std.proofs.Common.{◌≡◌, ◌≢◌, ◌<◌, ◌≤◌, ℕ, ◌+◌, ◌-◌, ◌==◌, if◌then◌else◌, Bool, true, false, ◌||◌, ◌⊎◌, inl, inr, List, [], ◌∷◌, ◌++◌, map, length, get_or, refl, ap, sym, subst, ◌∙◌, arith, Some, None, nat_lt, ℤ, get_or-set_other, get_or-set_same, length-set, rules}
use Rattle.qs_played.proofs.Names.{AllByRecursion, list_any, length-map, map-set, sum_by-set, Event, Ticket, Request, BlockShape, block_at, blocks_of, event, is_in, IsSound, IsSoundBlock, sound_block, ticket, with_sync, SyncCount, AllByRecursion-get_or}
use Rattle.std.proofs.Math.ListN.{set, get_or-map}
use Rattle.qs_meaning.specs.audit.Interaction.{Interaction, Done, Call, Query}
use Rattle.qs_played.specs.declared.schedule.actor.Actor.TheVariants as actor
use Rattle.qs_plain_laws.proofs.Names.{Client, step, client_step, moves_on}
use Rattle.qs_plain_laws.specs.declared.item.QueueItem.{QueueItem}
use Rattle.qs_plain_laws.specs.audit.Plain as plain
use Rattle.qs_plain_laws.specs.declared.item.QueueItem.TheVariants as item
use Rattle.qs_plain.proofs.Names.{after_moves, ClientState, IsClient, IsWithin, current_block, client_of_state, stage_of, absent, client_state_at, Frame, next_of, load_left, counted_in, noted_in, last_of, no_trace, TraceState, trace_state, Stage, handler_state_at, nobody, with_logged_item, logged_at, logged_all, CanLog, CanLogAll, RulesState, IsRules, IsOpen, to_come, is_in_block, plain_of}
use Rattle.qs_plain.proofs.client.ClientPreserved.{within_of}
use Rattle.qs_plain.specs.declared.client.stage.Stage.TheVariants as stage
use Rattle.qs_plain.proofs.handler.HandlersPreserved.{equal_or_not, logged_each, length-logged_all}
use Rattle.qs_plain.proofs.RulesBegin.{each_implies}
use Rattle.qs_plain.proofs.RulesPreserved.{Continues, logged_kept}
use Rattle.qs_plain.proofs.RulesSteps.{plain_client, plain-logged_at, plain-logged_all}

-- what holds of each number of a list holds of a member
member_all : (P : ℕ → Type 0) (xs : List ℕ) (h : ℕ) → is_in xs h ≡ true → AllByRecursion P xs → P h
member_all P [] h member each = cc
member_all P (x ∷ xs) h member each = by_test (x == h) (λ e. e) member (λ m. member_all P xs h m each.1)
  where
    by_test : (b : Bool) → (b ≡ true → (x == h) ≡ true) → (b || list_any (λ y. y == h) xs) ≡ true → (is_in xs h ≡ true → P h) → P h
    by_test v same' m later = grind arith

module _ (r : RulesState) (kept : IsRules r) (sound : IsSound r.program) (c : ℕ) (inside : c < length r.clients)
    (isc : IsClient (client_state_at r.clients c)) (stays : (client_state_at r.clients c).stage ≡ stage.Within) where
  abbrev old : ClientState
  old = client_state_at r.clients c

  abbrev pub here : ℕ
  here = length old.entries - 1

  abbrev pub now : Ticket
  now = ticket c here

  abbrev block : BlockShape
  block = block_at r.program c here

  within : IsWithin old 0
  within = within_of isc stays

  pub some : 0 < length old.entries
  some = within.some

  pub in_range : here < blocks_of r.program c
  in_range = grind (arith, kept, isc)

  pub client_in_range : c < length r.program.clients
  client_in_range = omega (arith, kept.clients, inside)

  block_sound : IsSoundBlock r.program.objects block
  block_sound = sound_block r.program c here sound client_in_range in_range

  pub same_block : current_block old ≡ block
  same_block = let owned = kept.own c inside in λ i. block_at (owned.0 i) (owned.1 i) here

  handlers_exist : AllByRecursion (λ h. h < length r.handlers) block.reserved
  handlers_exist = subst (λ n. AllByRecursion (λ h. h < n) block.reserved) (sym kept.handlers) block_sound.reserved

  can_log_at : (h : ℕ) → h < length r.handlers → CanLog now r.handlers h
  can_log_at h less = (
    less,
    (
      λ i d place mine.
          let opened : IsOpen r.clients h (get_or (handler_state_at r.handlers h).queues i d) = AllByRecursion-get_or (IsOpen r.clients h) (handler_state_at r.handlers h).queues i d (kept.queues h less) place in
          let in_block : is_in_block old.stage ≡ true = rw stays refl in
          omega (arith, opened.room c inside in_block mine),
      kept.apart h less,
    ),
  )

  pub can_log : (h : ℕ) → is_in (current_block old).reserved h ≡ true → CanLog now r.handlers h
  can_log h member = can_log_at h (member_all (λ k. k < length r.handlers) block.reserved h (subst (λ (b : BlockShape). is_in b.reserved h ≡ true) same_block member) handlers_exist)

  pub can_log_all : CanLogAll now r.handlers block.reserved
  can_log_all = (each_implies (λ h. h < length r.handlers) (CanLog now r.handlers) block.reserved can_log_at handlers_exist, block_sound.distinct)

  module _ (s : Stage) (l : List ℤ) (fs : List Frame) (ts : List TraceState) (xs : List (List SyncCount)) (new : ClientState) (new_is : new ≡ after_moves old s l fs ts xs) (load : (h : ℕ) → load_left fs h ≤ load_left old.frames h) where
    pub continues : Continues old new
    continues = record {
      program = ap (λ (d : ClientState). d.program) new_is;
      number = ap (λ (d : ClientState). d.number) new_is;
      entries = ap (λ (d : ClientState). length d.entries) new_is;
      prepared = ap (λ (d : ClientState). length d.prepared) new_is;
      stays = λ e. rw stays refl;
      load = λ h. subst (λ (d : ClientState). load_left d.frames h ≤ load_left old.frames h) (sym new_is) (load h);
    }

  pub moved_to_come : (s : Stage) (l : List ℤ) (fs : List Frame) (ts : List TraceState) (xs : List (List SyncCount)) (new : ClientState) → new ≡ after_moves old s l fs ts xs → to_come (set r.clients c new) ≡ to_come r.clients
  moved_to_come s l fs ts xs new new_is =
      let counted = sum_by-set (λ (d : ClientState). length d.prepared) r.clients c new absent inside in
      omega (arith, counted, ap (λ (d : ClientState). length d.prepared) new_is)

  -- a request was logged
  pub asked_kept : (s : Stage) (l : List ℤ) (fs : List Frame) (ts : List TraceState) (xs : List (List SyncCount)) (new : ClientState) → new ≡ after_moves old s l fs ts xs → (h : ℕ) → is_in (current_block old).reserved h ≡ true → (i : QueueItem)
      → ((k : ℕ) → (if h == k then 1 else 0) + load_left fs k ≤ load_left old.frames k)
      → IsRules (record { program = r.program; order = r.order; clients = set r.clients c new; handlers = logged_at now i r.handlers h })
  asked_kept s l fs ts xs new new_is h member i load =
      logged_kept r kept c new now i (logged_at now i r.handlers h) inside (continues s l fs ts xs new new_is (λ k. omega (arith, load k))) refl (length-set r.handlers h (with_logged_item now i (handler_state_at r.handlers h)))
      (λ k. at_place k (equal_or_not k h)) (λ k e. asked k (equal_or_not k h))
    where
      less : h < length r.handlers
      less = (can_log h member).0

      at_place : (k : ℕ) → (k ≡ h) ⊎ (k ≢ h) → (handler_state_at (logged_at now i r.handlers h) k ≡ handler_state_at r.handlers k) ⊎ (handler_state_at (logged_at now i r.handlers h) k ≡ with_logged_item now i (handler_state_at r.handlers k))
      at_place k (inl is) = inr (subst (λ n. handler_state_at (logged_at now i r.handlers h) n ≡ with_logged_item now i (handler_state_at r.handlers n)) (sym is) (get_or-set_same r.handlers h (with_logged_item now i (handler_state_at r.handlers h)) nobody less))
      at_place k (inr other) = inl (get_or-set_other r.handlers h k (with_logged_item now i (handler_state_at r.handlers h)) nobody other)

      strict : load_left fs h + 1 ≤ load_left old.frames h
      strict = let self : (h == h) ≡ true = grind arith in let here' : 1 + load_left fs h ≤ load_left old.frames h = rw self at (load h) in omega (arith, here')

      asked : (k : ℕ) → (k ≡ h) ⊎ (k ≢ h) → (handler_state_at (logged_at now i r.handlers h) k ≡ handler_state_at r.handlers k) ⊎ (load_left new.frames k + 1 ≤ load_left old.frames k)
      asked k (inl is) = inr (subst (λ (d : ClientState). load_left d.frames k + 1 ≤ load_left old.frames k) (sym new_is) (subst (λ n. load_left fs n + 1 ≤ load_left old.frames n) (sym is) strict))
      asked k (inr other) = inl (get_or-set_other r.handlers h k (with_logged_item now i (handler_state_at r.handlers h)) nobody other)

  -- the block has ended
  pub ended_kept : (l : List ℤ) (new : ClientState) → new ≡ after_moves old stage.Out l [] old.traces old.counts
      → IsRules (record { program = r.program; order = r.order; clients = set r.clients c new; handlers = logged_all now item.EndMark r.handlers block.reserved })
  ended_kept l new new_is =
      logged_kept r kept c new now item.EndMark (logged_all now item.EndMark r.handlers block.reserved) inside (continues stage.Out l [] old.traces old.counts new new_is (λ k. omega arith)) refl
      (length-logged_all now item.EndMark r.handlers block.reserved) (logged_each now item.EndMark r.handlers block.reserved block_sound.distinct handlers_exist)
      (λ h e. absurd (out_of e))
    where
      out_of : is_in_block new.stage ≡ true → ⊥
      out_of e = let e' : false ≡ true = sym (ap (λ (d : ClientState). is_in_block d.stage) new_is) ∙ e in cc

  goes_within : (x : RulesState) (rest : Interaction) → next_of old.frames old.locals ≡ rest → moves_on r.program (plain_of r) c (client_of_state old) rest ≡ plain_of x → step r.program (plain_of r) (actor.Client c) ≡ Some (plain_of x)
  goes_within x rest is e =
      let there : nat_lt c (length (map client_of_state r.clients)) ≡ true = rw length-map (grind (arith, inside)) in
      rw there
      (subst (λ (it : Client). client_step r.program (plain_of r) c it it.stage ≡ Some (plain_of x)) (sym (plain_client r.clients c))
      (subst (λ s. client_step r.program (plain_of r) c (client_of_state old) (stage_of s old.frames old.locals) ≡ Some (plain_of x)) (sym stays)
      (ap Some (ap (moves_on r.program (plain_of r) c (client_of_state old)) is ∙ e))))

  events-noted : (e : Event) → map (λ (t : TraceState). t.events) (noted_in old.traces e)
      ≡ set (map (λ (t : TraceState). t.events) old.traces) here (get_or (map (λ (t : TraceState). t.events) old.traces) here [] ++ e ∷ [])
  events-noted e =
      let last : last_of old.traces ≡ get_or old.traces here no_trace = ap (λ n. get_or old.traces (n - 1) no_trace) isc.traces in
      map-set (λ (t : TraceState). t.events) old.traces (length old.traces - 1) (trace_state ((last_of old.traces).events ++ e ∷ []) ((last_of old.traces).room - 1))
      ∙ ap (λ n. set (map (λ (t : TraceState). t.events) old.traces) (n - 1) ((last_of old.traces).events ++ e ∷ [])) isc.traces
      ∙ ap (λ es. set (map (λ (t : TraceState). t.events) old.traces) here (es ++ e ∷ [])) (ap (λ (t : TraceState). t.events) last ∙ sym (get_or-map (λ (t : TraceState). t.events) old.traces here no_trace))

  pub command_steps : (q : Request) (l : List ℤ) (fs : List Frame) (new : ClientState) → next_of old.frames old.locals ≡ Call q (next_of fs l) → new ≡ after_moves old stage.Within l fs (noted_in old.traces (event q None)) old.counts
      → step r.program (plain_of r) (actor.Client c) ≡ Some (plain_of (record { program = r.program; order = r.order; clients = set r.clients c new; handlers = logged_at now (item.Command q) r.handlers q.object }))
  command_steps q l fs new is new_is = goes_within (record { program = r.program; order = r.order; clients = set r.clients c new; handlers = logged_at now (item.Command q) r.handlers q.object }) _ is (λ k. record {
    order = r.order;
    clients = (ap (set (map client_of_state r.clients) c) (sym client) ∙ sym (map-set client_of_state r.clients c new)) k;
    handlers = sym (plain-logged_at now (item.Command q) r.handlers q.object) k;
  })
    where
      client : client_of_state new ≡ plain.stands (plain.with_trace_event (client_of_state old) here (event q None)) (plain.within (next_of fs l))
      client = ap client_of_state new_is ∙ (λ k. record { stage = plain.within (next_of fs l); entries = old.entries; traces = events-noted (event q None) k; counts = old.counts })

  pub query_steps : (q : Request) (x : ℕ) (l : List ℤ) (fs : List Frame) (new : ClientState) → next_of old.frames old.locals ≡ Query q (λ v. next_of fs (set l x v)) → new ≡ after_moves old (stage.Waiting x) l fs old.traces (counted_in old.counts q.object)
      → step r.program (plain_of r) (actor.Client c) ≡ Some (plain_of (record { program = r.program; order = r.order; clients = set r.clients c new; handlers = logged_at now (item.Query q) r.handlers q.object }))
  query_steps q x l fs new is new_is = goes_within (record { program = r.program; order = r.order; clients = set r.clients c new; handlers = logged_at now (item.Query q) r.handlers q.object }) _ is (λ k. record {
    order = r.order;
    clients = (ap (set (map client_of_state r.clients) c) (sym client) ∙ sym (map-set client_of_state r.clients c new)) k;
    handlers = sym (plain-logged_at now (item.Query q) r.handlers q.object) k;
  })
    where
      counts : counted_in old.counts q.object ≡ set old.counts here (with_sync q.object (get_or old.counts here []))
      counts = ap (λ n. set old.counts (n - 1) (with_sync q.object (get_or old.counts (n - 1) []))) isc.counts

      client : client_of_state new ≡ plain.stands (plain.with_query_counted (client_of_state old) here q.object) (plain.waiting (λ v. next_of fs (set l x v)))
      client = search (rules, plain.waiting, set, map)

  pub end_steps : (l : List ℤ) (new : ClientState) → next_of old.frames old.locals ≡ Done l → new ≡ after_moves old stage.Out l [] old.traces old.counts
      → step r.program (plain_of r) (actor.Client c) ≡ Some (plain_of (record { program = r.program; order = r.order; clients = set r.clients c new; handlers = logged_all now item.EndMark r.handlers block.reserved }))
  end_steps l new is new_is = goes_within (record { program = r.program; order = r.order; clients = set r.clients c new; handlers = logged_all now item.EndMark r.handlers block.reserved }) _ is (λ k. record {
    order = r.order;
    clients = (ap (set (map client_of_state r.clients) c) (sym (ap client_of_state new_is)) ∙ sym (map-set client_of_state r.clients c new)) k;
    handlers = sym (plain-logged_all now item.EndMark r.handlers block.reserved) k;
  })
