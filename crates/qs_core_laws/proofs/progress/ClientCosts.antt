-- How many steps are left of the block that a client of the optimised machine is in, its own and those that handlers
-- make of what it sends. Each request that it can still make counts six: a query wants at most a Sync, the object and
-- its way home, and a command at most a chunk. An object that it holds counts two, for its way home; an open chunk
-- three; and each object of the list two, for its end. What a client does to its own values takes nothing more, and
-- each of its acts, with what a handler makes of the parcel, is paid.
use Rattle.std.proofs.Common.{◌≡◌, ◌≤◌, ◌+◌, ◌*◌, ◌-◌, ◌==◌, ◌&&◌, is_some, nat_lt, ℕ, suc, ℤ, Bool, true, false, if◌then◌else◌, List, [], ◌∷◌, ◌++◌, Option, Some, None, length, refl, sym, ap, subst, arith, rules}
use Rattle.qs_played.proofs.Names.{HeldState, run_one, Ticket, Request, is_in, Locals, value_of, put_here, put_there, IsAsking, IsQueryOf}
use Rattle.qs_graph.specs.audit.Synced.{Synced, Done, Call, Sync, Query}
use Rattle.qs_core_laws.proofs.Names.{without_syncs, Batch, Parcel, Client, ClientStage, Settings, between, runs, full, awaits, leaves, stop_at, act_at, act_of, clear, call_act, end_block, call, query, settle, set_chunk, set_held, after_home, after_work, after_sync, after_end, after_parcel, take_chunk, take_object, Act, Send, Await, NeedChunk, Finished, put_kept}
use Rattle.qs_chunk.specs.declared.parcel.Parcel.TheVariants as parcels
use Rattle.qs_plain_laws.proofs.progress.RequestCounts.{AtMost}
use Rattle.qs_core_laws.proofs.protocol.ActKinds.{call_not_await, clears_not_await, clears_not_need, full_not_await, full_not_need, outside_not_await, outside_not_need, outside_not_send}
use Rattle.qs_core_laws.proofs.protocol.ClientInvariants.{Lined, Stops}
use Rattle.qs_core_laws.proofs.progress.Chunks.{at_same, call_need, call_work, clears_work, end_no_work, finished_no_send, sync_no_work}
use Rattle.qs_core_laws.proofs.progress.Sums.{total, total_changed, total_same}

abbrev pub held_cost : Option HeldState → ℕ
held_cost None = 0
held_cost (Some x) = 2

abbrev pub chunk_cost : Option (List Request) → ℕ
chunk_cost None = 0
chunk_cost (Some rs) = 3

abbrev pub hand : Client → ℕ → ℕ
hand m h = held_cost (m.held h) + chunk_cost (m.chunk h)

-- a parcel in a lane: it is taken, and what it asks for is given
abbrev pub parcel_cost : Parcel → ℕ
parcel_cost (parcels.Home x) = 1
parcel_cost parcels.End = 1
parcel_cost _ = 2

-- so many requests can still be made; after a Sync the query is the next
abbrev pub Needs : ClientStage → ℕ → Type 0
Needs (runs rest) n = AtMost (without_syncs rest) n × IsAsking rest
Needs (full h rest) n = AtMost (without_syncs rest) n × IsAsking rest
Needs (awaits h rest) n = AtMost (without_syncs rest) (suc n) × IsAsking rest × IsQueryOf h rest
Needs _ n = Unit {0}

-- in a block with this list
module _ (names : List ℕ) where
  abbrev pub hands : Client → ℕ
  hands m = total (hand m) names

  abbrev pub in_block : ℕ → Client → ℕ
  in_block n m = (6 * n + hands m) + 2 * length names

  abbrev pub place_cost : Client → ℕ → ClientStage → ℕ
  place_cost m n (between l) = 0
  place_cost m n (awaits h rest) = in_block n m + 3
  place_cost m n (leaves h hs l) = hands m + 2 * suc (length hs)
  place_cost m n _ = in_block n m

  -- who has come to this has e fewer left than b
  pub record Falls (m : Client) (e b : ℕ) : Type 0 where
    pub need : ℕ
    pub needs : Needs m.stage need
    pub fits : place_cost m need m.stage + e ≤ b

  pub falls_by : (m : Client) (e b e' b' : ℕ) → b + e' ≤ b' + e → Falls m e b → Falls m e' b'
  falls_by m e b e' b' le f = grind arith

  -- what is in hand changes at one object
  module _ (may : ℕ → Bool) (lined : Lined may names) (m : Client) (h : ℕ) (mine : is_in names h ≡ true) where
    held_changed : (o : Option HeldState) → hands (set_held m h o) + held_cost (m.held h) ≡ hands m + held_cost o
    held_changed o = search (rules, total_changed, put_there, put_here)

    chunk_changed : (o : Option (List Request))
        → hands (set_chunk m h o) + chunk_cost (m.chunk h) ≡ hands m + chunk_cost o
    chunk_changed o = search (rules, total_changed, put_there, put_here)

  held_still : (m : Client) (h : ℕ) (o : Option HeldState) → held_cost o ≡ held_cost (m.held h)
      → hands (set_held m h o) ≡ hands m
  held_still m h o same = search (rules, total_same, hand, put_kept)

  chunk_still : (m : Client) (h : ℕ) (o : Option (List Request)) → chunk_cost o ≡ chunk_cost (m.chunk h)
      → hands (set_chunk m h o) ≡ hands m
  chunk_still m h o same = search (rules, total_same, hand, put_kept)

  module _ (settings : Settings) (t : Ticket) where
    -- about to go on with this
    abbrev Goes : Synced → Type 0
    Goes code =
        (m : Client) (n : ℕ) → AtMost (without_syncs code) n → IsAsking code → Falls (settle settings t names code m).client 0 (in_block n m)

    leaving_falls : (m : Client) (hs : List ℕ) (l : Locals)
        → Falls (end_block settings t names m hs l).client 0 (hands m + 2 * length hs)
    leaving_falls m v l = grind arith

    call_open : (m : Client) (r : Request) (next : Synced) (rs : List Request) (n : ℕ) → m.chunk r.object ≡ Some rs
        → AtMost (without_syncs next) n → IsAsking next → Goes next
        → Falls (call settings t names m r next (λ m. settle settings t names next m) None (Some rs)).client 0 (in_block n m)
    call_open m r next rs n e most asking ih = by_case (length (rs ++ r ∷ []) == settings.size)
      where
        m' : Client
        m' = set_chunk m r.object (Some (rs ++ r ∷ []))

        still : hands (set_chunk m r.object (Some (rs ++ r ∷ []))) ≡ hands m
        still = chunk_still m r.object (Some (rs ++ r ∷ [])) (sym (ap chunk_cost e))

        by_case : (b : Bool)
            → Falls (if b then stop_at (set_chunk m r.object (Some (rs ++ r ∷ []))) (full r.object next) else settle settings t names next (set_chunk m r.object (Some (rs ++ r ∷ [])))).client 0 (in_block n m)
        by_case true =
            record { need = n; needs = (most, asking); fits = (let same_hands = still in omega (arith, same_hands)) }
        by_case false =
            falls_by _ 0 (in_block n (set_chunk m r.object (Some (rs ++ r ∷ [])))) 0 (in_block n m) (let same_hands = still in omega (arith, same_hands))
            (ih (set_chunk m r.object (Some (rs ++ r ∷ []))) n most asking)

    call_falls : (m : Client) (r : Request) (next : Synced) (hd : Option HeldState) (ck : Option (List Request)) (n : ℕ)
        → m.chunk r.object ≡ ck
        → AtMost (without_syncs (Call r next)) n → IsAsking next → Goes next
        → Falls (call settings t names m r next (λ m. settle settings t names next m) hd ck).client 0 (in_block n m)
    call_falls m r next None (Some rs) n e most asking ih =
        falls_by _ 0 (in_block (n - 1) m) 0 (in_block n m) (omega arith) (call_open m r next rs (n - 1) e most.1 asking ih)
    call_falls m r next _ _ n e most asking ih = record { need = n; needs = (most, asking); fits = omega arith }

    query_open : (m : Client) (r : Request) (next : ℤ → Synced) (x : HeldState) (n : ℕ) → m.held r.object ≡ Some x
        → ((v : ℤ) → AtMost (without_syncs (next v)) n) → ((v : ℤ) → IsAsking (next v)) → ((v : ℤ) → Goes (next v))
        → Falls (query settings t names m r next (λ v m. settle settings t names (next v) m) (Some x)).client 0 (in_block n m)
    query_open m r next x n e most asking ih =
        let o = run_one x t r in
        let v = value_of o.1 in
        let m' = set_held m r.object (Some o.0) in
        let still = held_still m r.object (Some o.0) (sym (ap held_cost e)) in
        falls_by _ 0 (in_block n m') 0 (in_block n m) (omega (arith, still)) (ih v m' n (most v) (asking v))

    query_falls : (m : Client) (r : Request) (next : ℤ → Synced) (hd : Option HeldState) (n : ℕ) → m.held r.object ≡ hd
        → AtMost (without_syncs (Query r next)) n → ((v : ℤ) → IsAsking (next v)) → ((v : ℤ) → Goes (next v))
        → Falls (query settings t names m r next (λ v m. settle settings t names (next v) m) hd).client 0 (in_block n m)
    query_falls m r next None n e most asking ih = record { need = n; needs = (most, asking); fits = omega arith }
    query_falls m r next (Some x) n e most asking ih =
        falls_by _ 0 (in_block (n - 1) m) 0 (in_block n m) (omega arith) (query_open m r next x (n - 1) e most.1 asking ih)

    sync_falls : (m : Client) (h : ℕ) (next : Synced) (b : Bool) (n : ℕ) → AtMost (without_syncs next) n
        → IsAsking (Sync h next) → Goes next
        → Falls (if b then settle settings t names next m else stop_at m (runs (Sync h next))).client 0 (in_block n m)
    sync_falls m h next true n most asking ih = ih m n most asking.1
    sync_falls m h next false n most asking ih = record { need = n; needs = (most, asking); fits = omega arith }

    pub settle_falls : (code : Synced) → Goes code
    settle_falls (Done l) m n most asking =
        falls_by _ 0 (hands m + 2 * length names) 0 (in_block n m) (omega arith) (leaving_falls m names l)
    settle_falls (Call r next) m n most asking = search (rules, call_falls, settle_falls next)
    settle_falls (Sync h next) m n most asking = search (rules, sync_falls, is_some, settle_falls next)
    settle_falls (Query r next) m n most asking =
        query_falls m r next (m.held r.object) n refl most asking (λ v. settle_falls (next v))

    -- which acts are due

    call_home : (k : ℕ) (hd : Option HeldState) (ck : Option (List Request)) (h : ℕ) (x : HeldState)
        → call_act settings k hd ck ≡ Send h (parcels.Home x) → (k ≡ h) × (z : HeldState) × (hd ≡ Some z)
    call_home k v ck h x e = search rules

    clears_home : (k : ℕ) (hd : Option HeldState) (ck : Option (List Request)) (other : Act) (h : ℕ) (x : HeldState)
        → (other ≡ Send h (parcels.Home x) → ⊥)
        → clear settings k hd ck other ≡ Send h (parcels.Home x) → (k ≡ h) × (z : HeldState) × (hd ≡ Some z)
    clears_home k v ck other h x never e = search rules

    full_no_home : (k : ℕ) (ck : Option (List Request)) (h : ℕ) (x : HeldState)
        → clear settings k None ck Finished ≡ Send h (parcels.Home x) → ⊥
    full_no_home k v h x e = search rules

    call_no_sync : (k : ℕ) (hd : Option HeldState) (ck : Option (List Request)) (h : ℕ)
        → call_act settings k hd ck ≡ Send h parcels.Sync → ⊥
    call_no_sync k v w h e = search rules

    call_no_end : (k : ℕ) (hd : Option HeldState) (ck : Option (List Request)) (h : ℕ)
        → call_act settings k hd ck ≡ Send h parcels.End → ⊥
    call_no_end k v w h e = search rules

    clears_no_end : (k : ℕ) (hd : Option HeldState) (ck : Option (List Request)) (h : ℕ)
        → clear settings k hd ck (Send k parcels.Sync) ≡ Send h parcels.End → ⊥
    clears_no_end k v w h e = search rules

    clears_no_sync : (k : ℕ) (hd : Option HeldState) (ck : Option (List Request)) (h : ℕ)
        → clear settings k hd ck (Send k parcels.End) ≡ Send h parcels.Sync → ⊥
    clears_no_sync k v w h e = search rules

    full_no_sync : (k : ℕ) (ck : Option (List Request)) (h : ℕ)
        → clear settings k None ck Finished ≡ Send h parcels.Sync → ⊥
    full_no_sync k v h e = search rules

    full_no_end : (k : ℕ) (ck : Option (List Request)) (h : ℕ) → clear settings k None ck Finished ≡ Send h parcels.End
        → ⊥
    full_no_end k v h e = search rules

    sync_no_home : (k h : ℕ) (x : HeldState) → Send k parcels.Sync ≡ Send h (parcels.Home x) → ⊥
    sync_no_home k h x e = cc

    end_no_home : (k h : ℕ) (x : HeldState) → Send k parcels.End ≡ Send h (parcels.Home x) → ⊥
    end_no_home k h x e = cc

    need_held : (k : ℕ) (hd : Option HeldState) (ck : Option (List Request)) (h : ℕ)
        → call_act settings k hd ck ≡ NeedChunk h → hd ≡ None
    need_held k v ck h e = search rules

    held_same : (m : Client) (h k : ℕ) (o : Option HeldState) → k ≡ h → m.held k ≡ o → m.held h ≡ o
    held_same m h k o is e = subst (λ h. m.held h ≡ o) is e

    module _ (may : ℕ → Bool) (lined : Lined may names) (blocks : ℕ) (m : Client) (h : ℕ) (mine : is_in names h ≡ true) where
      -- it sends an object home
      home_rest : (rest : Synced) (n : ℕ) (z : HeldState) → m.held h ≡ Some z → Needs (runs rest) n
          → Falls (settle settings t names rest (set_held m h None)).client 2 (in_block n m)
      home_rest rest n z e needs =
          let fewer = held_changed may lined m h mine None in
          let here : held_cost (m.held h) ≡ 2 = ap held_cost e in
          falls_by _ 0 (in_block n (set_held m h None)) 2 (in_block n m) (omega (arith, fewer, here)) (settle_falls rest (set_held m h None) n needs.0 needs.1)

      home_falls : (pl : ClientStage) (n : ℕ) (x : HeldState) → Needs pl n
          → act_at settings blocks m pl ≡ Send h (parcels.Home x)
          → Falls (after_home settings t names m h pl).client 2 (place_cost m n pl)
      home_falls (between l) n x needs e = absurd (outside_not_send (nat_lt m.begun blocks) h (parcels.Home x) e)
      home_falls (runs (Call r next)) n x needs e =
          let w = call_home r.object (m.held r.object) (m.chunk r.object) h x e in
          home_rest (Call r next) n w.1 (held_same m h r.object (Some w.1) w.0 w.2) needs
      home_falls (runs (Sync k next)) n x needs e =
          let w = clears_home k (m.held k) (m.chunk k) (Send k parcels.Sync) h x (sync_no_home k h x) e in
          home_rest (Sync k next) n w.1 (held_same m h k (Some w.1) w.0 w.2) needs
      home_falls (full k rest) n x needs e = absurd (full_no_home k (m.chunk k) h x e)
      home_falls (leaves k hs l) n x needs e =
          let w = clears_home k (m.held k) (m.chunk k) (Send k parcels.End) h x (end_no_home k h x) e in
          let fewer = held_changed may lined m h mine None in
          let here : held_cost (m.held h) ≡ 2 = ap held_cost (held_same m h k (Some w.1) w.0 w.2) in
          record { need = n; needs = tt; fits = omega (arith, fewer, here) }
      home_falls _ n x needs e = absurd (cc)

      -- it sends a chunk
      work_rest : (rest : Synced) (n : ℕ) (rs : List Request) → m.chunk h ≡ Some rs → Needs (runs rest) n
          → Falls (settle settings t names rest (set_chunk m h None)).client 3 (in_block n m)
      work_rest rest n rs e needs =
          let fewer = chunk_changed may lined m h mine None in
          let here : chunk_cost (m.chunk h) ≡ 3 = ap chunk_cost e in
          falls_by _ 0 (in_block n (set_chunk m h None)) 3 (in_block n m) (omega (arith, fewer, here)) (settle_falls rest (set_chunk m h None) n needs.0 needs.1)

      work_falls : (pl : ClientStage) (n : ℕ) (chunk : Batch Request) → Needs pl n
          → act_at settings blocks m pl ≡ Send h (parcels.Work chunk)
          → Falls (after_work settings t names m h pl).client 3 (place_cost m n pl)
      work_falls (between l) n chunk needs e = search (rules, outside_not_send)
      work_falls (runs (Call r next)) n chunk needs e =
          let w = call_work settings r.object (m.held r.object) (m.chunk r.object) h (parcels.Work chunk) refl e in
          work_rest (Call r next) n w.1 (at_same settings m h r.object (Some w.1) w.0 w.2) needs
      work_falls (runs (Sync k next)) n chunk needs e =
          let w = clears_work settings k (m.held k) (m.chunk k) (Send k parcels.Sync) h (parcels.Work chunk) (sync_no_work settings k h (parcels.Work chunk) refl) refl e in
          work_rest (Sync k next) n w.1 (at_same settings m h k (Some w.1) w.0 w.2) needs
      work_falls (full k rest) n chunk needs e =
          let w = clears_work settings k None (m.chunk k) Finished h (parcels.Work chunk) (finished_no_send settings h (parcels.Work chunk)) refl e in
          work_rest rest n w.1 (at_same settings m h k (Some w.1) w.0 w.2) needs
      work_falls (leaves k hs l) n chunk needs e =
          let w = clears_work settings k (m.held k) (m.chunk k) (Send k parcels.End) h (parcels.Work chunk) (end_no_work settings k h (parcels.Work chunk) refl) refl e in
          let fewer = chunk_changed may lined m h mine None in
          let here : chunk_cost (m.chunk h) ≡ 3 = ap chunk_cost (at_same settings m h k (Some w.1) w.0 w.2) in
          record { need = n; needs = tt; fits = omega (arith, fewer, here) }
      work_falls _ n chunk needs e = absurd (cc)

      -- it asks for an object
      asked_falls : (k : ℕ) (next : Synced) (n : ℕ) → AtMost (without_syncs next) n → IsQueryOf k next → IsAsking next
          → Falls (stop_at m (awaits k next)).client 3 (in_block n m)
      asked_falls k (Query r next) n most of asking =
          let one = most.0 in
          let same : n ≡ suc (n - 1) = omega (arith, one) in
          record { need = n - 1; needs = (subst (λ n. AtMost (without_syncs (Query r next)) n) same most, asking, of); fits = omega (arith, one) }
      asked_falls k _ n most of asking = absurd of

      sync_sent_falls : (pl : ClientStage) (n : ℕ) → Needs pl n → act_at settings blocks m pl ≡ Send h parcels.Sync
          → Falls (after_sync settings t names m pl).client 3 (place_cost m n pl)
      sync_sent_falls pl n needs e = search (rules, outside_not_send, call_no_sync, asked_falls, full_no_sync, clears_no_sync)

      -- it leaves an object
      end_falls : (pl : ClientStage) (n : ℕ) → Needs pl n → act_at settings blocks m pl ≡ Send h parcels.End
          → Falls (after_end settings t names m pl).client 2 (place_cost m n pl)
      end_falls (between l) n needs e = absurd (outside_not_send (nat_lt m.begun blocks) h parcels.End e)
      end_falls (runs (Call r next)) n needs e = absurd (call_no_end r.object (m.held r.object) (m.chunk r.object) h e)
      end_falls (runs (Sync k next)) n needs e = absurd (clears_no_end k (m.held k) (m.chunk k) h e)
      end_falls (full k rest) n needs e = absurd (full_no_end k (m.chunk k) h e)
      end_falls (leaves k hs l) n needs e = grind (arith, falls_by, hands, leaving_falls)
      end_falls _ n needs e = absurd (cc)

      -- whatever it sends
      pub sent_falls : (n : ℕ) (p : Parcel) → Needs m.stage n → act_of settings blocks m ≡ Send h p
          → Falls (after_parcel settings t names m h p).client (suc (parcel_cost p)) (place_cost m n m.stage)
      sent_falls n (parcels.Work chunk) needs e = work_falls m.stage n chunk needs e
      sent_falls n parcels.Sync needs e = sync_sent_falls m.stage n needs e
      sent_falls n (parcels.Home x) needs e = home_falls m.stage n x needs e
      sent_falls n parcels.End needs e = end_falls m.stage n needs e

      -- the object comes, and the query is run
      got_rest : (rest : Synced) (n : ℕ) (x : HeldState) → AtMost (without_syncs rest) (suc n) → IsQueryOf h rest
          → IsAsking rest → Falls (settle settings t names rest (set_held m h (Some x))).client 1 (in_block n m + 3)
      got_rest (Query r next) n x most of asking =
          let m' = set_held m h (Some x) in
          let has : m'.held r.object ≡ Some x = held_same m' r.object h (Some x) of (put_here m.held h (Some x)) in
          let more = held_changed may lined m h mine (Some x) in
          let same : suc n - 1 ≡ n = omega arith in
          let most' : (v : ℤ) → AtMost (without_syncs (next v)) n = λ v. subst (λ n. AtMost (without_syncs (next v)) n) same (most.1 v) in
          falls_by _ 0 (in_block n m') 1 (in_block n m + 3) (omega (arith, more))
          (subst (λ hd. Falls (query settings t names m' r next (λ v m. settle settings t names (next v) m) hd).client 0 (in_block n m')) (sym has)
          (query_open m' r next x n has most' asking (λ v. settle_falls (next v))))
      got_rest _ n x most of asking = absurd of

      pub got_falls : (pl : ClientStage) (n : ℕ) (x : HeldState) → ((rest : Synced) → pl ≡ runs rest → Stops rest)
          → Needs pl n → act_at settings blocks m pl ≡ Await h
          → Falls (take_object settings t names m x pl).client 1 (place_cost m n pl)
      got_falls (awaits k rest) n x stops needs e = search (rules, in_block, got_rest)
      got_falls (between l) n x stops needs e = absurd (outside_not_await (nat_lt m.begun blocks) h e)
      got_falls (runs (Done l)) n x stops needs e = absurd (cc)
      got_falls (runs (Call r next)) n x stops needs e = search (rules, call_not_await)
      got_falls (runs (Sync k next)) n x stops needs e = search (rules, clears_not_await)
      got_falls (runs (Query r next)) n x stops needs e = absurd (stops (Query r next) refl)
      got_falls (full k rest) n x stops needs e = absurd (full_not_await settings k (m.chunk k) h e)
      got_falls (leaves k hs l) n x stops needs e = search (rules, clears_not_await)

      -- a chunk comes, and the command goes into it
      pub need_falls : (pl : ClientStage) (n : ℕ) → Needs pl n → act_at settings blocks m pl ≡ NeedChunk h
          → Falls (take_chunk settings t names m h pl).client 1 (place_cost m n pl)
      need_falls (between l) n needs e = absurd (outside_not_need (nat_lt m.begun blocks) h e)
      need_falls (runs (Call r next)) n needs e =
          let w = call_need settings r.object (m.held r.object) (m.chunk r.object) h e in
          let m' = set_chunk m h (Some []) in
          let none : m'.held r.object ≡ None = need_held r.object (m.held r.object) (m.chunk r.object) h e in
          let has : m'.chunk r.object ≡ Some [] = at_same settings m' r.object h (Some []) (sym w.0) (put_here m.chunk h (Some [])) in
          let more = chunk_changed may lined m h mine (Some []) in
          let one = needs.0.0 in
          falls_by _ 0 (in_block (n - 1) m') 1 (in_block n m) (omega (arith, more, one))
          (subst (λ hd. Falls (call settings t names m' r next (λ m. settle settings t names next m) hd (m'.chunk r.object)).client 0 (in_block (n - 1) m')) (sym none)
          (subst (λ ck. Falls (call settings t names m' r next (λ m. settle settings t names next m) None ck).client 0 (in_block (n - 1) m')) (sym has)
          (call_open m' r next [] (n - 1) has needs.0.1 needs.1 (settle_falls next))))
      need_falls (runs (Sync k next)) n needs e = search (rules, clears_not_need)
      need_falls (full k rest) n needs e = absurd (full_not_need settings k (m.chunk k) h e)
      need_falls (leaves k hs l) n needs e = absurd (clears_not_need settings k (m.held k) (m.chunk k) parcels.End h e)
      need_falls _ n needs e = absurd (cc)
