-- In a block the Syncs that a client has sent for an object, with those that its tree still asks for, are always the
-- count of the whole trace, whatever replies come. The exact counts of the machine and of threads (`CoreCounting`,
-- `HistoryCounts`) keep this with each act. What holds at each place is `CountAt`; each act keeps it, by cases on the
-- place, and so does quiet work, by induction on the tree.
use Rattle.std.proofs.Common.{◌≡◌, ℕ, suc, ◌+◌, Bool, true, false, if◌then◌else◌, ◌==◌, ◌&&◌, is_some, List, [], ◌∷◌, ◌++◌, length, refl, sym, ap, ◌∙◌, subst, ⊎_elim, append_assoc, append-nil, Option, Some, None, ℤ, arith, rules}
use Rattle.qs_played.proofs.Names.{HeldState, run_one, command_event, Event, Ticket, Request, eqb_self, num_cases, event, put, value_of, Locals, put_here, put_there, syncs_along, IsAsking, IsQueryOf}
use Rattle.qs_graph.specs.audit.Synced.{Synced, Done, Call, Sync, Query}
use Rattle.qs_core_laws.proofs.Names.{Parcel, Client, ClientStage, Settings, Settlement, act_at, act_of, between, runs, full, awaits, leaves, call_act, call, clear, take_object, end_block, query, after_parcel, after_end, after_home, after_sync, after_work, settle, stop_at, take_chunk, with_event, work, Send, Finished}
use Rattle.qs_chunk.specs.declared.parcel.Parcel.TheVariants as parcels
use Rattle.qs_core_laws.proofs.protocol.ActKinds.{outside_not_send}
use Rattle.qs_core_laws.proofs.protocol.ClientInvariants.{holding}

module _ (settings : Settings) (t : Ticket) (names : List ℕ) (first : Synced) where
  abbrev along : ℕ → Bool → Synced → List Event → ℕ
  along h held code es = syncs_along settings.dynamic h held code es

  -- whatever comes, so many were sent and the rest are still to come
  abbrev pub Even : List Event → (ℕ → ℕ) → (ℕ → Bool) → Synced → Type 0
  Even tr n held code = (h : ℕ) (es : List Event) → along h false first (tr ++ es) ≡ n h + along h (held h) code es

  -- none is still to come
  abbrev pub Over : List Event → (ℕ → ℕ) → Type 0
  Over tr n = (h : ℕ) → n h ≡ along h false first tr

  -- the client makes no quiet move
  abbrev pub Halts : Client → Synced → Type 0
  Halts m (Done l) = ⊥
  Halts m (Sync g next) = (settings.dynamic && holding m g) ≡ false
  Halts m _ = Unit {0}

  -- one more was sent for g, whose query comes next
  pub record Pending (tr : List Event) (n : ℕ → ℕ) (held : ℕ → Bool) (g : ℕ) (code : Synced) : Type 0 where
    pub query : IsQueryOf g code
    pub asks : IsAsking code
    pub now : (h : ℕ) → n h ≡ (if g == h then 1 else 0) + along h false first tr
    pub later : (h : ℕ) (e : Event) (es : List Event) → along h false first (tr ++ e ∷ es) ≡ n h + along h (put held g true h) code (e ∷ es)

  abbrev pub CountAt : List Event → (ℕ → ℕ) → Client → ClientStage → Type 0
  CountAt tr n m (runs code) = Even tr n (holding m) code × Halts m code × IsAsking code
  CountAt tr n m (full g code) = Even tr n (holding m) code × IsAsking code
  CountAt tr n m (awaits g code) = Pending tr n (holding m) g code
  CountAt tr n m _ = Over tr n

  abbrev pub Counts : List Event → (ℕ → ℕ) → Settlement → Type 0
  Counts tr n r = CountAt (tr ++ r.events) n r.client r.client.stage

  pub counts_stay : (tr : List Event) (n : ℕ → ℕ) (m : Client) (pl : ClientStage) → CountAt tr n (record m { stage = pl }) pl → Counts tr n (stop_at m pl)
  counts_stay tr n m pl k = subst (λ es. CountAt es n (record m { stage = pl }) pl) (sym (append-nil tr)) k

  counts_event : (tr : List Event) (n : ℕ → ℕ) (e : Event) (r : Settlement) → Counts (tr ++ e ∷ []) n r → Counts tr n (with_event e r)
  counts_event tr n e r k = subst (λ es. CountAt es n r.client r.client.stage) (append_assoc tr (e ∷ []) r.events) k

  leaving_counts : (tr : List Event) (n : ℕ → ℕ) (m : Client) (hs : List ℕ) (l : Locals) → Over tr n → Counts tr n (end_block settings t names m hs l)
  leaving_counts tr n m v l k = search (rules, counts_stay)

  -- of no trace there are none
  along_none : (h : ℕ) (held : Bool) (code : Synced) → along h held code [] ≡ 0
  along_none h held (Done l) = refl
  along_none h held _ = refl

  -- so as much was sent as the trace so far says
  pub even_now : (tr : List Event) (n : ℕ → ℕ) (held : ℕ → Bool) (code : Synced) → Even tr n held code → Over tr n
  even_now tr n held code k h =
      let all : along h false first tr ≡ n h + along h (held h) code [] = ap (along h false first) (sym (append-nil tr)) ∙ k h [] in
      let none = along_none h (held h) code in
      omega (arith, all, none)

  -- an event more
  even_event : (tr : List Event) (n : ℕ → ℕ) (held after : ℕ → Bool) (code next : Synced) (e : Event)
      → ((h : ℕ) (es : List Event) → along h (held h) code (e ∷ es) ≡ along h (after h) next es) → Even tr n held code → Even (tr ++ e ∷ []) n after next
  even_event tr n held after code next e is k h es = search (rules, along, append_assoc)

  put_false : (held : ℕ → Option HeldState) (g h : ℕ) → held g ≡ None → (if g == h then false else is_some (held h)) ≡ is_some (held h)
  put_false held g h e = search (rules, eqb_self, num_cases)

  some_put : (held : ℕ → Option HeldState) (g h : ℕ) (x : HeldState) → is_some (put held g (Some x) h) ≡ put (λ h. is_some (held h)) g true h
  some_put held g h x = search rules

  some_same : (held : ℕ → Option HeldState) (g h : ℕ) (x y : HeldState) → held g ≡ Some x → is_some (held h) ≡ is_some (put held g (Some y) h)
  some_same held g h x y e = search (rules, put_here, put_there, num_cases)

  call_counts : (tr : List Event) (n : ℕ → ℕ) (m : Client) (r : Request) (next : Synced) (hd : Option HeldState) (ck : Option (List Request))
      → m.held r.object ≡ hd → IsAsking next
      → Even tr n (holding m) (Call r next) → ((tr : List Event) (m : Client) → Even tr n (holding m) next → Counts tr n (settle settings t names next m))
      → Counts tr n (call settings t names m r next (λ m. settle settings t names next m) hd ck)
  call_counts tr n m r next None (Some rs) a q k ih =
      let more : Even (tr ++ command_event r ∷ []) n (holding m) next =
      even_event tr n (holding m) (holding m) (Call r next) next (command_event r) (λ h es. ap (λ b. along h b next es) (put_false m.held r.object h a)) k in
      by_case (length (rs ++ r ∷ []) == settings.size) more (ih (tr ++ command_event r ∷ []) (record m { chunk = put m.chunk r.object (Some (rs ++ r ∷ [])) }) more)
    where
      by_case : (x : Bool) → Even (tr ++ command_event r ∷ []) n (holding m) next
          → Counts (tr ++ command_event r ∷ []) n (settle settings t names next (record m { chunk = put m.chunk r.object (Some (rs ++ r ∷ [])) }))
          → Counts tr n (with_event (command_event r) (if x then stop_at (record m { chunk = put m.chunk r.object (Some (rs ++ r ∷ [])) })
          (full r.object next) else settle settings t names next (record m { chunk = put m.chunk r.object (Some (rs ++ r ∷ [])) })))
      by_case x more rest = search (rules, counts_event, counts_stay)
  call_counts tr n m r next _ _ a q k ih = counts_stay tr n m (runs (Call r next)) (k, tt, q)

  query_counts : (tr : List Event) (n : ℕ → ℕ) (m : Client) (r : Request) (next : ℤ → Synced) (hd : Option HeldState) → m.held r.object ≡ hd → IsAsking
      (Query r next)
      → (hd ≡ None → Even tr n (holding m) (Query r next))
      → ((h : ℕ) (e : Event) (es : List Event) → along h false first (tr ++ e ∷ es) ≡ n h + along h (holding m h) (Query r next) (e ∷ es))
      → ((v : ℤ) (tr : List Event) (m : Client) → Even tr n (holding m) (next v) → Counts tr n (settle settings t names (next v) m))
      → Counts tr n (query settings t names m r next (λ v m. settle settings t names (next v) m) hd)
  query_counts tr n m r next (Some x) a q none k ih =
      let o = run_one x t r in
      let v = value_of o.1 in
      let m' : Client = record m { held = put m.held r.object (Some o.0) } in
      counts_event tr n (event r o.1) (settle settings t names (next v) m')
      (ih v (tr ++ event r o.1 ∷ []) m' (λ h es.
      ap (along h false first) (append_assoc tr (event r o.1 ∷ []) es)
      ∙ (k h (event r o.1) es ∙ ap (λ b. n h + along h b (next v) es) (some_same m.held r.object h x o.0 a))))
  query_counts tr n m r next None a q none k ih = counts_stay tr n m (runs (Query r next)) (none refl, tt, q)

  -- a synchronisation that is skipped
  passed : (held : ℕ → Bool) (g h : ℕ) (next : Synced) (es : List Event) → (settings.dynamic && held g) ≡ true
      → along h (held h) (Sync g next) es ≡ along h (held h) next es
  passed held g h next es e = search (rules, along_none, eqb_self, num_cases)

  sync_counts : (tr : List Event) (n : ℕ → ℕ) (m : Client) (g : ℕ) (next : Synced) (b : Bool) → (settings.dynamic && holding m g) ≡ b → IsAsking (Sync g next)
      → Even tr n (holding m) (Sync g next) → (Even tr n (holding m) next → Counts tr n (settle settings t names next m))
      → Counts tr n (if b then settle settings t names next m else stop_at m (runs (Sync g next)))
  sync_counts tr n m g next v e q k ih = search (rules, passed, holding, counts_stay)

  pub settle_counts : (code : Synced) (tr : List Event) (n : ℕ → ℕ) (m : Client) → IsAsking code → Even tr n (holding m) code → Counts tr n
      (settle settings t names code m)
  settle_counts (Done l) tr n m q k = leaving_counts tr n m names l (even_now tr n (holding m) (Done l) k)
  settle_counts (Call r next) tr n m q k = call_counts tr n m r next (m.held r.object) (m.chunk r.object) refl q k (λ tr m k. settle_counts next tr n m q k)
  settle_counts (Sync g next) tr n m q k = sync_counts tr n m g next (settings.dynamic && is_some (m.held g)) refl q k (λ k. settle_counts next tr n m q.1 k)
  settle_counts (Query r next) tr n m q k =
      query_counts tr n m r next (m.held r.object) refl q (λ _. k) (λ h e es. k h (e ∷ es)) (λ v tr m k. settle_counts (next v) tr n m (q v) k)

  -- the object goes home before a command on it
  home_call : (tr : List Event) (n : ℕ → ℕ) (m : Client) (r : Request) (next : Synced) → Even tr n (holding m) (Call r next)
      → Even tr n (holding (record m { held = put m.held r.object None })) (Call r next)
  home_call tr n m r next k h xs = search rules

  and_false : (b : Bool) → (b && false) ≡ false
  and_false v = search rules

  -- and before a synchronisation with it
  home_sync : (tr : List Event) (n : ℕ → ℕ) (m : Client) (g : ℕ) (next : Synced) → (settings.dynamic && holding m g) ≡ false → Even tr n (holding m)
      (Sync g next)
      → Even tr n (holding (record m { held = put m.held g None })) (Sync g next)
  home_sync tr n m g next test k h xs = search (rules, eqb_self, and_false, put_there, num_cases)

  -- a Sync is sent
  sync_sent : (tr : List Event) (n : ℕ → ℕ) (m : Client) (g : ℕ) (next : Synced) → (settings.dynamic && holding m g) ≡ false → IsAsking (Sync g next)
      → Even tr n (holding m) (Sync g next) → Pending tr (put n g (suc (n g))) (holding m) g next
  sync_sent tr n m g next test q k = record {
    query = q.0;
    asks = q.1;
    now = λ h.
        let now : n h ≡ along h false first tr = even_now tr n (holding m) (Sync g next) k h in
        ⊎_elim
        (λ (is : g ≡ h). subst (λ h. n h ≡ along h false first tr → put n g (suc (n g)) h ≡ (if g == h then 1 else 0) + along h false first tr) is
        (λ now. rw (eqb_self g) (omega (arith, now))) now)
        (λ (other : (g == h) ≡ false). rw other (omega (arith, now)))
        (num_cases g h);
    later = grind (arith, along, is_some, holding, eqb_self, num_cases);
  }

  -- what a parcel adds
  abbrev pub count_up : (ℕ → ℕ) → ℕ → Parcel → ℕ → ℕ
  count_up n h parcels.Sync = put n h (suc (n h))
  count_up n h _ = n

  -- once a parcel was sent from this place
  abbrev From : List Event → (ℕ → ℕ) → Client → ClientStage → ℕ → Parcel → Type 0
  From tr n m pl h (parcels.Home x) = Counts tr n (after_home settings t names m h pl)
  From tr n m pl h (parcels.Work rs) = Counts tr n (after_work settings t names m h pl)
  From tr n m pl h parcels.Sync = Counts tr (put n h (suc (n h))) (after_sync settings t names m pl)
  From tr n m pl h parcels.End = Counts tr n (after_end settings t names m pl)

  on_send : (P : ℕ → Parcel → Type 0) (g : ℕ) (q : Parcel) (h : ℕ) (p : Parcel) → Send g q ≡ Send h p → P g q → P h p
  on_send P g q h p e k = search rules

  call_sent : (tr : List Event) (n : ℕ → ℕ) (m : Client) (r : Request) (next : Synced) (hd : Option HeldState) (ck : Option (List Request)) → IsAsking next
      → Even tr n (holding m) (Call r next) → (h : ℕ) (p : Parcel) → call_act settings r.object hd ck ≡ Send h p → From tr n m (runs (Call r next)) h p
  call_sent tr n m r next (Some x) ck q k h p e =
      on_send (From tr n m (runs (Call r next))) r.object (parcels.Home x) h p e
      (settle_counts (Call r next) tr n (record m { held = put m.held r.object None }) q (home_call tr n m r next k))
  call_sent tr n m r next None None q k h p e = absurd (cc)
  call_sent tr n m r next None (Some rs) q k h p e = search (rules, on_send, settle_counts)

  clear_sent : (tr : List Event) (n : ℕ → ℕ) (m : Client) (g : ℕ) (next : Synced) (hd : Option HeldState) (ck : Option (List Request))
      → (settings.dynamic && holding m g) ≡ false → IsAsking (Sync g next) → Even tr n (holding m) (Sync g next)
      → (h : ℕ) (p : Parcel) → clear settings g hd ck (Send g parcels.Sync) ≡ Send h p → From tr n m (runs (Sync g next)) h p
  clear_sent tr n m g next v ck d q k h p e = search (rules, on_send, settle_counts, home_sync, counts_stay, sync_sent)

  full_sent : (tr : List Event) (n : ℕ → ℕ) (m : Client) (g : ℕ) (code : Synced) (ck : Option (List Request)) → IsAsking code → Even tr n (holding m) code
      → (h : ℕ) (p : Parcel) → clear settings g None ck Finished ≡ Send h p → From tr n m (full g code) h p
  full_sent tr n m g code None q k h p e = absurd (cc)
  full_sent tr n m g code (Some rs) q k h p e =
      on_send (From tr n m (full g code)) g (work settings rs) h p e (settle_counts code tr n (record m { chunk = put m.chunk g None }) q k)

  leave_sent : (tr : List Event) (n : ℕ → ℕ) (m : Client) (g : ℕ) (hs : List ℕ) (l : Locals) (hd : Option HeldState) (ck : Option (List Request)) → Over tr n
      → (h : ℕ) (p : Parcel) → clear settings g hd ck (Send g parcels.End) ≡ Send h p → From tr n m (leaves g hs l) h p
  leave_sent tr n m g hs l hd ck k h p e = search (rules, on_send, counts_stay, leaving_counts)

  from_place : (blocks : ℕ) (tr : List Event) (n : ℕ → ℕ) (m : Client) (pl : ClientStage) → CountAt tr n m pl → (h : ℕ) (p : Parcel)
      → act_at settings blocks m pl ≡ Send h p
      → From tr n m pl h p
  from_place blocks tr n m pl k h p e = search (rules, outside_not_send, call_sent, clear_sent, full_sent, leave_sent)

  pub send_counts : (blocks : ℕ) (tr : List Event) (n : ℕ → ℕ) (m : Client) → CountAt tr n m m.stage → (h : ℕ) (p : Parcel)
      → act_of settings blocks m ≡ Send h p
      → Counts tr (count_up n h p) (after_parcel settings t names m h p)
  send_counts blocks tr n m k h (parcels.Home x) e = from_place blocks tr n m m.stage k h (parcels.Home x) e
  send_counts blocks tr n m k h (parcels.Work rs) e = from_place blocks tr n m m.stage k h (parcels.Work rs) e
  send_counts blocks tr n m k h parcels.Sync e = from_place blocks tr n m m.stage k h parcels.Sync e
  send_counts blocks tr n m k h parcels.End e = from_place blocks tr n m m.stage k h parcels.End e

  halts_still : (m : Client) (p : ClientStage) (code : Synced) → Halts m code → Halts (record m { stage = p }) code
  halts_still m p v k = search rules

  -- the object came whose query is next
  query_comes : (tr : List Event) (n : ℕ → ℕ) (m : Client) (x : HeldState) (g : ℕ) (code : Synced) → Pending tr n (holding m) g code
      → Counts tr n (settle settings t names code (record m { held = put m.held g (Some x) }))
  query_comes tr n m x g (Query r next) k =
      let m' : Client = record m { held = put m.held g (Some x) } in
      let here : put m.held g (Some x) r.object ≡ Some x = subst (λ h. put m.held g (Some x) h ≡ Some x) k.query (put_here m.held g (Some x)) in
      query_counts tr n m' r next (put m.held g (Some x) r.object) refl k.asks
      (λ none. absurd (let never : None ≡ Some x = sym none ∙ here in cc))
      (λ h e es. k.later h e es ∙ ap (λ b. n h + along h b (Query r next) (e ∷ es)) (sym (some_put m.held g h x)))
      (λ v tr m k'. settle_counts (next v) tr n m (k.asks v) k')
  query_comes tr n m x g _ k = absurd k.query

  pub got_counts : (tr : List Event) (n : ℕ → ℕ) (m : Client) (x : HeldState) (pl : ClientStage) → CountAt tr n m pl → Counts tr n (take_object settings t names m x pl)
  got_counts tr n m x (between l) k = counts_stay tr n m (between l) k
  got_counts tr n m x (runs code) k = counts_stay tr n m (runs code) (k.0, halts_still m (runs code) code k.1, k.2)
  got_counts tr n m x (full g code) k = counts_stay tr n m (full g code) k
  got_counts tr n m x (awaits g code) k = query_comes tr n m x g code k
  got_counts tr n m x (leaves g hs l) k = counts_stay tr n m (leaves g hs l) k

  pub chunk_counts : (tr : List Event) (n : ℕ → ℕ) (m : Client) (h : ℕ) (pl : ClientStage) → CountAt tr n m pl → Counts tr n (take_chunk settings t names m h pl)
  chunk_counts tr n m h (between l) k = counts_stay tr n m (between l) k
  chunk_counts tr n m h (runs code) k = settle_counts code tr n (record m { chunk = put m.chunk h (Some []) }) k.2 k.0
  chunk_counts tr n m h (full g code) k = counts_stay tr n m (full g code) k
  chunk_counts tr n m h (awaits g code) k = counts_stay tr n m (awaits g code) (record { query = k.query; asks = k.asks; now = k.now; later = k.later })
  chunk_counts tr n m h (leaves g hs l) k = counts_stay tr n m (leaves g hs l) k
