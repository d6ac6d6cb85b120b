-- A journal's room suffices under the plain rules: what was run of each reservation is within its block's load.
use Rattle.std.proofs.Common.{◌≡◌, ◌<◌, ◌≤◌, ◌+◌, arith, ℕ, suc, List, [], ◌∷◌, ◌++◌, length, map, flat_map, refl, ap, ap₂, ◌∙◌, subst, ℤ, None, rules}
use Rattle.qs_played.proofs.Names.{AllByRecursion, length-append, length-map, command_event, part, stamp, Event, Ticket, Request, reserves, Leads, block_tree, Interaction, Query, ProgramShape, text_of, event, value_of, each_map, each_front, each_back, each_kept, parts_of, IsBlockRecord, requests_within, leads_query, part_snoc_here, room_of}
use Rattle.qs_played.proofs.JournalRooms.{total, total_less, total_append, total_filter, leads_within, cost, order_fits, all_left}
use Rattle.qs_plain_laws.proofs.ServedRuns.{Service, ServedRun, Front, entries_shown, IsServedRun}

module _ (p : ProgramShape) (h : ℕ) (w : ServedRun) (ok : IsServedRun p w) where
  abbrev l : Service
  l = w.service h

  abbrev parts : Ticket → List Event
  parts = parts_of w.block_record h

  within_load : (t : Ticket) → IsBlockRecord p t (w.block_record t) → length (parts t) ≤ cost p h t
  within_load t path = leads_within h (block_tree p t (w.block_record t).entry) (w.block_record t).trace (w.block_record t).rest (cost p h t) path (requests_within (text_of p t).body (w.block_record t).entry h)

  all_within : AllByRecursion (λ t. length (parts t) ≤ cost p h t) (l.past ++ l.queue)
  all_within = search (rules, parts, cost, ok, each_kept, each_map, within_load)

  stamped_length : (ts : List Ticket) → length (flat_map (λ t. map (stamp t) (parts t)) ts) ≡ total (λ t. length (parts t)) ts
  stamped_length [] = refl
  stamped_length (t ∷ ts) =
      length-append (map (stamp t) (parts t)) (flat_map (λ t. map (stamp t) (parts t)) ts)
      ∙ ap₂ (λ a b. a + b) (length-map (parts t) (stamp t)) (stamped_length ts)

  -- with one more request of the ticket that is served the journal has room
  pub room_for : (t : Ticket) (ts : List Ticket) → l.queue ≡ t ∷ ts → length l.now < cost p h t → length l.journal < room_of p h
  room_for t ts q more =
      let svc = ok.services h in
      let journal : length l.journal ≡ total (λ t. length (parts t)) l.past + length l.now =
      ap length (svc.entries ∙ ap (λ q. flat_map (λ t. map (stamp t) (parts t)) l.past ++ entries_shown q l.now) q)
      ∙ (length-append (flat_map (λ t. map (stamp t) (parts t)) l.past) (map (stamp t) l.now)
      ∙ ap₂ (λ a b. a + b) (stamped_length l.past) (length-map l.now (stamp t))) in
      let past = total_less (λ t. length (parts t)) (cost p h) l.past (each_front (λ t. length (parts t) ≤ cost p h t) l.past l.queue all_within) in
      let both : total (cost p h) (l.past ++ l.queue) ≡ total (cost p h) l.past + (cost p h t + total (cost p h) ts) = total_append (cost p h) l.past l.queue ∙ ap (λ q. total (cost p h) l.past + total (cost p h) q) q in
      let mine : total (cost p h) (l.past ++ l.queue) ≤ total (cost p h) w.order = subst (λ xs. total (cost p h) xs ≤ total (cost p h) w.order) svc.mine (total_filter (cost p h) (λ t. reserves p t h) w.order) in
      let whole = order_fits p h (λ _. 0) w.order ok.legal in
      let room = all_left p h in
      omega (arith, journal, past, both, mine, whole, room, more)

  first_part : (t : Ticket) (ts : List Ticket) → l.queue ≡ t ∷ ts → parts t ≡ l.now ++ map command_event (l.wait t)
  first_part t ts q = (subst (Front parts l.now l.wait) q (ok.services h).front).0

  first_within : (t : Ticket) (ts : List Ticket) → l.queue ≡ t ∷ ts → length (parts t) ≤ cost p h t
  first_within t ts q = (subst (AllByRecursion (λ t. length (parts t) ≤ cost p h t)) q (each_back (λ t. length (parts t) ≤ cost p h t) l.past l.queue all_within)).0

  -- for a command that waits
  pub room_to_run : (t : Ticket) (ts : List Ticket) (r : Request) (rs : List Request) → l.queue ≡ t ∷ ts → l.wait t ≡ r ∷ rs → length l.journal < room_of p h
  room_to_run t ts r rs q some =
      let long : length (parts t) ≡ length l.now + suc (length (map command_event rs)) =
      ap length (first_part t ts q ∙ ap (λ ws. l.now ++ map command_event ws) some) ∙ length-append l.now (map command_event (r ∷ rs)) in
      let le = first_within t ts q in
      room_for t ts q (omega (arith, long, le))

  -- for a query whose client waits
  pub room_to_ask : (t : Ticket) (ts : List Ticket) (r : Request) (next : ℤ → Interaction) → l.queue ≡ t ∷ ts → l.wait t ≡ [] → IsBlockRecord p t (w.block_record t) → (w.block_record t).rest ≡ Query r next → r.object ≡ h
      → length l.journal < room_of p h
  room_to_ask t ts r next q none path is at =
      let e = event r None in
      let longer = leads_query (block_tree p t (w.block_record t).entry) (w.block_record t).trace e next (subst (Leads (block_tree p t (w.block_record t).entry) (w.block_record t).trace) is path) in
      let le = leads_within h (block_tree p t (w.block_record t).entry) ((w.block_record t).trace ++ e ∷ []) (next (value_of e.reply)) (cost p h t) longer (requests_within (text_of p t).body (w.block_record t).entry h) in
      let one : length (part h ((w.block_record t).trace ++ e ∷ [])) ≡ length (parts t) + 1 = ap length (part_snoc_here h (w.block_record t).trace e at) ∙ length-append (parts t) (e ∷ []) in
      let now : length (parts t) ≡ length l.now + 0 = ap length (first_part t ts q ∙ ap (λ ws. l.now ++ map command_event ws) none) ∙ length-append l.now [] in
      room_for t ts q (omega (arith, le, one, now))
