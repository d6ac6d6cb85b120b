-- What a client sends to a handler may follow what it sent there before (the law `sends_may_follow`): so each lane
-- keeps its form, for threads as for the optimised machine. The one fact to keep: the last parcel is a Sync exactly
-- where the client waits for the object or holds it. All quiet work leaves it as it is, since that awaits nothing, and
-- neither takes an object up nor gives one away.
use Rattle.std.proofs.Common.{◌≡◌, ◌≢◌, ℕ, suc, Bool, true, false, ◌==◌, ◌&&◌, ◌||◌, if◌then◌else◌, is_some, nat_lt, List, [], ◌∷◌, ◌++◌, length, Option, Some, None, ℤ, refl, sym, ap, ◌∙◌, subst, ⊎_elim}
use Rattle.qs_objects.specs.audit.Journals.{HeldState, run_one}
use Rattle.qs_objects.specs.declared.held.Ticket.{Ticket}
use Rattle.qs_objects.specs.declared.Request.{Request}
use Rattle.qs_objects.proofs.Choices.{eqb_apart, eqb_self, num_cases}
use Rattle.qs_program.specs.audit.Values.{Locals}
use Rattle.qs_meaning.specs.audit.Solo.{put, value_of}
use Rattle.qs_meaning.proofs.TreeWalks.{put_here, put_there}
use Rattle.qs_graph.specs.audit.Synced.{Synced, Done, Call, Sync, Query}
use Rattle.qs_chunk.specs.audit.Lanes.{is_asked, is_sync}
use Rattle.qs_chunk.specs.Lanes.{MayFollow}
use Rattle.qs_chunk.proofs.LaneFronts.{asked_last}
use Rattle.qs_chunk.specs.declared.parcel.Parcel.{Parcel}
use Rattle.qs_chunk.specs.declared.parcel.Parcel.TheVariants as parcels
use Rattle.qs_client.specs.audit.rules.Client.{Client, ClientStage, Settings, Settlement, between, runs, full, awaits, leaves, act_at, call_act, clear, rest_act, work, stop_at, set_held, set_chunk, end_block, call, query, settle, after_parcel, after_home, after_work, after_sync, after_end, take_object, take_chunk}
use Rattle.qs_client.specs.run.NextActs.{SendsNothing}
use Rattle.qs_client.specs.declared.rules.act.Act.{Act}
use Rattle.qs_client.specs.declared.rules.act.Act.TheVariants as acts
use Rattle.qs_client.proofs.rules.CarriedValues.{sends_are_parted}
use Rattle.qs_client.specs.ClientLanes.{is_awaited, IsFree, ClientFitsLane, BeginsAtLanes, SendsMayFollow, SendsKeepOtherLanes, QuietActsKeepLanes, TicketsKeepLanes, ObjectsKeepLanes, ChunksKeepLanes, ClientLaneLaws}
use Rattle.qs_client.specs.audit.ClientModel.{ClientModel, finish, locals_at, next_act, next_mind, reserved_by, settings_of, tree_at}
use Rattle.qs_client.specs.ClientModel.{Asks}
use Rattle.qs_client.specs.audit.rules.Outgoings.{after_send, without_act, outgoing_of}
use Rattle.qs_syncset.specs.audit.Codes.{code_at}

-- the object of h is held or not, nothing is awaited, and a full chunk is for an object that is not held
record Rests (m : Client) (h : ℕ) (held : Bool) : Type 0 where
  pub held_is : is_some (m.held h) ≡ held
  pub nothing : is_awaited m.stage h ≡ false
  pub free : IsFree m.stage m h

rests_as : (m : Client) (h : ℕ) (b c : Bool) → b ≡ c → Rests m h b → Rests m h c
rests_as m h b c is rests = record { held_is = rests.held_is ∙ is; nothing = rests.nothing; free = rests.free }

-- an object that is held stays held
held_stays : (f : ℕ → Option HeldState) (g h : ℕ) (x y : HeldState) → f g ≡ Some x → is_some (put f g (Some y) h) ≡ is_some (f h)
held_stays f g h x y is =
    ⊎_elim
    (λ (same : g ≡ h). subst (λ k. is_some (put f g (Some y) k) ≡ is_some (f k)) same (ap is_some (put_here f g (Some y)) ∙ sym (ap is_some is)))
    (λ (apart : (g == h) ≡ false). ap is_some (put_there f g (Some y) h apart))
    (num_cases g h)

module _ (settings : Settings) (ticket : Ticket) (reserved : List ℕ) (h : ℕ) where
  rests_leaving : (m : Client) (hs : List ℕ) (l : Locals) → Rests (end_block settings ticket reserved m hs l).client h (is_some (m.held h))
  rests_leaving m [] l = record { held_is = refl; nothing = refl; free = tt }
  rests_leaving m (g ∷ hs) l = record { held_is = refl; nothing = refl; free = tt }

  -- all quiet work does so
  abbrev Quiet : (Client → Settlement) → Type 0
  Quiet go = (m : Client) → Rests (go m).client h (is_some (m.held h))

  rests_full : (m m' : Client) (g : ℕ) (next : Synced) (go : Client → Settlement) (b : Bool) → m.held g ≡ None → m'.held ≡ m.held → Quiet go
      → Rests (if b then stop_at m' (full g next) else go m').client h (is_some (m.held h))
  rests_full m m' g next go true none same quiet = record {
    held_is = ap (λ f. is_some (f h)) same;
    nothing = refl;
    free = λ here. subst (λ k. m'.held k ≡ None) here (ap (λ f. f g) same ∙ none);
  }
  rests_full m m' g next go false none same quiet = rests_as (go m').client h (is_some (m'.held h)) (is_some (m.held h)) (ap (λ f. is_some (f h)) same) (quiet m')

  rests_calls : (m : Client) (r : Request) (next : Synced) (go : Client → Settlement) (x : Option HeldState) (c : Option (List Request)) → m.held r.object ≡ x → Quiet go
      → Rests (call settings ticket reserved m r next go x c).client h (is_some (m.held h))
  rests_calls m r next go None (Some rs) is quiet =
      let more = rs ++ r ∷ [] in
      rests_full m (set_chunk m r.object (Some more)) r.object next go (length more == settings.size) is refl quiet
  rests_calls m r next go _ _ is quiet = record { held_is = refl; nothing = refl; free = tt }

  rests_queries : (m : Client) (r : Request) (next : ℤ → Synced) (go : ℤ → Client → Settlement) (x : Option HeldState) → m.held r.object ≡ x → ((v : ℤ) → Quiet (go v))
      → Rests (query settings ticket reserved m r next go x).client h (is_some (m.held h))
  rests_queries m r next go None is quiet = record { held_is = refl; nothing = refl; free = tt }
  rests_queries m r next go (Some x) is quiet =
      let o = run_one x ticket r in
      let new = set_held m r.object (Some o.0) in
      rests_as (go (value_of o.1) new).client h (is_some (new.held h)) (is_some (m.held h)) (held_stays m.held r.object h x o.0 is) (quiet (value_of o.1) new)

  rests_sync : (m : Client) (g : ℕ) (next : Synced) (go : Settlement) (b : Bool) → Rests go.client h (is_some (m.held h))
      → Rests (if b then go else stop_at m (runs (Sync g next))).client h (is_some (m.held h))
  rests_sync m g next go true rests = rests
  rests_sync m g next go false rests = record { held_is = refl; nothing = refl; free = tt }

  rests_settle : (rest : Synced) → Quiet (settle settings ticket reserved rest)
  rests_settle (Done l) m = rests_leaving m reserved l
  rests_settle (Call r next) m = rests_calls m r next (λ m. settle settings ticket reserved next m) (m.held r.object) (m.chunk r.object) refl (rests_settle next)
  rests_settle (Sync g next) m = rests_sync m g next (settle settings ticket reserved next m) (settings.dynamic && is_some (m.held g)) (rests_settle next m)
  rests_settle (Query r next) m = rests_queries m r next (λ v m. settle settings ticket reserved (next v) m) (m.held r.object) refl (λ v. rests_settle (next v))

settles : (m : Client) (h : ℕ) (b : Bool) → Rests m h b → (is_awaited m.stage h || is_some (m.held h)) ≡ b
settles m h b rests = rw rests.nothing rests.held_is

module _ (settings : Settings) (ticket : Ticket) (reserved : List ℕ) where
  abbrev sent_at : Client → ℕ → Parcel → ClientStage → Settlement
  sent_at m g (parcels.Home x) p = after_home settings ticket reserved m g p
  sent_at m g (parcels.Work c) p = after_work settings ticket reserved m g p
  sent_at m g parcels.Sync p = after_sync settings ticket reserved m p
  sent_at m g parcels.End p = after_end settings ticket reserved m p

  -- what holds where a client at a stage sends a parcel to g
  record Sends (m : Client) (g : ℕ) (p : ClientStage) (parcel : Parcel) : Type 0 where
    pub quiet : (h : ℕ) → is_awaited p h ≡ false
    pub may : IsFree p m g → MayFollow settings.size (is_some (m.held g)) parcel
    pub own : IsFree p m g → let new = (sent_at m g parcel p).client in ((is_awaited new.stage g || is_some (new.held g)) ≡ is_sync parcel) × IsFree new.stage new g
    pub others : (h : ℕ) → g ≢ h → let new = (sent_at m g parcel p).client in
        ((is_awaited new.stage h || is_some (new.held h)) ≡ is_some (m.held h)) × IsFree new.stage new h

  stood : (m : Client) (h : ℕ) (b : Bool) → Rests m h b → ((is_awaited m.stage h || is_some (m.held h)) ≡ b) × IsFree m.stage m h
  stood m h b rests = (settles m h b rests, rests.free)

  -- the object goes home
  home_sends : (m : Client) (g : ℕ) (x : HeldState) (p : ClientStage) → m.held g ≡ Some x → ((h : ℕ) → is_awaited p h ≡ false)
      → ((h : ℕ) → Rests (after_home settings ticket reserved m g p).client h (is_some (put m.held g None h)))
      → Sends m g p (parcels.Home x)
  home_sends m g x p is quiet rests = record {
    quiet = quiet;
    may = λ free. subst (λ y. MayFollow settings.size (is_some y) (parcels.Home x)) (sym is) (refl, tt);
    own = λ free. let new = (after_home settings ticket reserved m g p).client in stood new g false (rests_as new g (is_some (put m.held g None g)) false (ap is_some (put_here m.held g None)) (rests g));
    others = λ h apart.
        let new = (after_home settings ticket reserved m g p).client in
        stood new h (is_some (m.held h)) (rests_as new h (is_some (put m.held g None h)) (is_some (m.held h)) (ap is_some (put_there m.held g None h (eqb_apart g h apart))) (rests h));
  }

  -- another parcel goes, while the object is not held
  other_sends : (m : Client) (g : ℕ) (parcel : Parcel) (p : ClientStage) → (IsFree p m g → m.held g ≡ None) → is_sync parcel ≡ false → MayFollow settings.size false parcel
      → ((h : ℕ) → is_awaited p h ≡ false) → ((h : ℕ) → Rests (sent_at m g parcel p).client h (is_some (m.held h)))
      → Sends m g p parcel
  other_sends m g parcel p none silent may quiet rests = record {
    quiet = quiet;
    may = λ free. subst (λ y. MayFollow settings.size (is_some y) parcel) (sym (none free)) may;
    own = λ free. let new = (sent_at m g parcel p).client in stood new g (is_sync parcel) (rests_as new g (is_some (m.held g)) (is_sync parcel) (ap is_some (none free) ∙ sym silent) (rests g));
    others = λ h apart. stood (sent_at m g parcel p).client h (is_some (m.held h)) (rests h);
  }

  sync_sends : (m : Client) (g : ℕ) (next : Synced) → m.held g ≡ None → Sends m g (runs (Sync g next)) parcels.Sync
  sync_sends m g next none = record {
    quiet = λ h. refl;
    may = λ free. subst (λ y. MayFollow settings.size (is_some y) parcels.Sync) (sym none) (refl, tt);
    own = λ free. (rw (eqb_self g) refl, tt);
    others = λ h apart. (rw (eqb_apart g h apart) refl, tt);
  }

  module _ (blocks : ℕ) (m : Client) (g : ℕ) (parcel : Parcel) where
    work_of : (p : ClientStage) (k : ℕ) (rs : List Request) → acts.Send k (work settings rs) ≡ acts.Send g parcel → (k ≡ g → IsFree p m g → m.held g ≡ None) → ((h : ℕ) → is_awaited p h ≡ false)
        → ((h : ℕ) → Rests (after_work settings ticket reserved m g p).client h (is_some (m.held h))) → Sends m g p parcel
    work_of p k rs is none quiet rests =
        let at : k ≡ g = cc is in
        let same : work settings rs ≡ parcel = cc is in
        subst (Sends m g p) same (other_sends m g (work settings rs) p (none at) refl (refl, refl) quiet rests)

    home_of : (p : ClientStage) (k : ℕ) (x : HeldState) → acts.Send k (parcels.Home x) ≡ acts.Send g parcel → m.held k ≡ Some x → ((h : ℕ) → is_awaited p h ≡ false)
        → ((h : ℕ) → Rests (after_home settings ticket reserved m g p).client h (is_some (put m.held g None h))) → Sends m g p parcel
    home_of p k x is held quiet rests =
        let at : k ≡ g = cc is in
        let same : parcels.Home x ≡ parcel = cc is in
        subst (Sends m g p) same (home_sends m g x p (subst (λ n. m.held n ≡ Some x) at held) quiet rests)

    -- it goes home first, then its chunk, and then what is left
    clearing : (p : ClientStage) (k : ℕ) (x : Option HeldState) (c : Option (List Request)) (last : Parcel) → m.held k ≡ x → clear settings k x c (acts.Send k last) ≡ acts.Send g parcel
        → ((h : ℕ) → is_awaited p h ≡ false)
        → ((h : ℕ) → Rests (after_home settings ticket reserved m g p).client h (is_some (put m.held g None h)))
        → ((h : ℕ) → Rests (after_work settings ticket reserved m g p).client h (is_some (m.held h)))
        → (k ≡ g → last ≡ parcel → m.held g ≡ None → Sends m g p parcel) → Sends m g p parcel
    clearing p k (Some x) c last held is quiet home sent_it left = home_of p k x is held quiet home
    clearing p k None (Some rs) last held is quiet home sent_it left = work_of p k rs is (λ at free. subst (λ n. m.held n ≡ None) at held) quiet sent_it
    clearing p k None None last held is quiet home sent_it left = let at : k ≡ g = cc is in left at (cc is) (subst (λ n. m.held n ≡ None) at held)

    home_runs : (rest : Synced) (h : ℕ) → Rests (settle settings ticket reserved rest (set_held m g None)).client h (is_some (put m.held g None h))
    home_runs rest h = rests_settle settings ticket reserved h rest (set_held m g None)

    work_runs : (rest : Synced) (h : ℕ) → Rests (settle settings ticket reserved rest (set_chunk m g None)).client h (is_some (m.held h))
    work_runs rest h = rests_settle settings ticket reserved h rest (set_chunk m g None)

    calls_send : (r : Request) (next : Synced) (x : Option HeldState) (c : Option (List Request)) → m.held r.object ≡ x → call_act settings r.object x c ≡ acts.Send g parcel → Sends m g (runs (Call r next)) parcel
    calls_send r next (Some x) c held is = home_of (runs (Call r next)) r.object x is held (λ h. refl) (home_runs (Call r next))
    calls_send r next None (Some rs) held is = work_of (runs (Call r next)) r.object rs is (λ at free. subst (λ n. m.held n ≡ None) at held) (λ h. refl) (work_runs (Call r next))
    calls_send r next None None held is = absurd (cc is)

    rest_sends : (rest : Synced) → rest_act settings m rest ≡ acts.Send g parcel → Sends m g (runs rest) parcel
    rest_sends (Call r next) is = calls_send r next (m.held r.object) (m.chunk r.object) refl is
    rest_sends (Sync k next) is =
        clearing (runs (Sync k next)) k (m.held k) (m.chunk k) parcels.Sync refl is (λ h. refl) (home_runs (Sync k next)) (work_runs (Sync k next))
        (λ at same none. subst (Sends m g (runs (Sync k next))) same (subst (λ n. Sends m g (runs (Sync n next)) parcels.Sync) (sym at) (sync_sends m g next none)))
    rest_sends _ is = absurd (cc is)

    no_send : (b : Bool) → (if b then acts.Reserve else acts.Finished) ≡ acts.Send g parcel → ⊥
    no_send true is = cc is
    no_send false is = cc is

    full_sends : (k : ℕ) (rest : Synced) (c : Option (List Request)) → clear settings k None c acts.Finished ≡ acts.Send g parcel → Sends m g (full k rest) parcel
    full_sends k rest (Some rs) is = work_of (full k rest) k rs is (λ at free. free at) (λ h. refl) (work_runs rest)
    full_sends k rest None is = absurd (cc is)

    sends_at : (p : ClientStage) → act_at settings blocks m p ≡ acts.Send g parcel → Sends m g p parcel
    sends_at (between l) is = absurd (no_send (nat_lt m.begun blocks) is)
    sends_at (runs rest) is = rest_sends rest is
    sends_at (full k rest) is = full_sends k rest (m.chunk k) is
    sends_at (awaits k rest) is = absurd (cc is)
    sends_at (leaves k hs l) is =
        clearing (leaves k hs l) k (m.held k) (m.chunk k) parcels.End refl is (λ h. refl)
        (λ h. record { held_is = refl; nothing = refl; free = tt }) (λ h. record { held_is = refl; nothing = refl; free = tt })
        (λ at same none. subst (Sends m g (leaves k hs l)) same (other_sends m g parcels.End (leaves k hs l) (λ free. none) refl (refl, tt) (λ h. refl) (λ h. rests_leaving settings ticket reserved h m hs l)))

-- the client of a mind whose last act was done
abbrev client_of : ClientModel → Client
client_of m = (finish m).client

-- once the parcel that it gave out was sent
sent_is : (settings : Settings) (ticket : Ticket) (reserved : List ℕ) (m : Client) (g : ℕ) (parcel : Parcel)
    → sent_at settings ticket reserved m g parcel m.stage ≡ after_parcel settings ticket reserved m g parcel
sent_is settings ticket reserved m g (parcels.Home x) = refl
sent_is settings ticket reserved m g _ = refl

sent_done : (m : ClientModel) (g : ℕ) (parcel : Parcel) → next_act m ≡ acts.Send g parcel
    → (sent_at (settings_of m) m.ticket (reserved_by m) (client_of m) g parcel (client_of m).stage).client ≡ client_of (next_mind m)
sent_done m g parcel is =
    let c = client_of m in
    ap (λ (s : Settlement). s.client)
    (sent_is (settings_of m) m.ticket (reserved_by m) c g parcel
    ∙ sends_are_parted (settings_of m) m.ticket (reserved_by m) (length m.code.blocks) c g parcel is
    ∙ ap (λ a. after_send (settings_of m) m.ticket (reserved_by m) (outgoing_of a) (without_act c a)) (sym is))

-- an act that sends nothing leaves nothing to be done
quiet_done : (settings : Settings) (ticket : Ticket) (reserved : List ℕ) (c : Client) (a : Act) → SendsNothing a
    → c ≡ (after_send settings ticket reserved (outgoing_of a) (without_act c a)).client
quiet_done settings ticket reserved c (acts.Send h p) quiet = absurd quiet
quiet_done settings ticket reserved c _ quiet = refl

-- nothing is left to be done of an act that was asked for
asked_client : (m : ClientModel) (a : Act) → Asks m a → client_of m ≡ m.client
asked_client m a asks = ap (λ d. (after_send (settings_of m) m.ticket (reserved_by m) d m.client).client) asks.0

-- only where it waits for an object it asks for one
not_awaited : (settings : Settings) (blocks : ℕ) (m : Client) (p : ClientStage) (h : ℕ) (a : Act) → ((g : ℕ) → acts.Await g ≢ a) → act_at settings blocks m p ≡ a → is_awaited p h ≡ false
not_awaited settings blocks m (awaits g rest) h a other is = absurd (other g is)
not_awaited settings blocks m _ h a other is = refl

-- a client that has come to rest
stands_at : (c new : Client) (h : ℕ) (sent : List Parcel) → ClientFitsLane c h sent → is_awaited c.stage h ≡ false → Rests new h (is_some (c.held h)) → ClientFitsLane new h sent
stands_at c new h sent stands quiet rests = record {
  last = stands.last ∙ (ap (λ b. b || is_some (c.held h)) quiet ∙ sym (settles new h (is_some (c.held h)) rests));
  free = rests.free;
}

chunk_rests : (settings : Settings) (ticket : Ticket) (reserved : List ℕ) (m : Client) (g h : ℕ) (p : ClientStage) → is_awaited p h ≡ false → IsFree p m h
    → Rests (take_chunk settings ticket reserved m g p).client h (is_some (m.held h))
chunk_rests settings ticket reserved m g h (runs rest) quiet free = rests_settle settings ticket reserved h rest (set_chunk m g (Some []))
chunk_rests settings ticket reserved m g h _ quiet free = record { held_is = refl; nothing = quiet; free = free }

now_held : (b : Bool) (x : HeldState) (y : Option HeldState) → (b || is_some y) ≡ is_some (if b then Some x else y)
now_held true x y = refl
now_held false x y = refl

got_stands : (settings : Settings) (ticket : Ticket) (reserved : List ℕ) (m : Client) (x : HeldState) (h : ℕ) (sent : List Parcel) (p : ClientStage)
    → is_asked false sent ≡ (is_awaited p h || is_some (m.held h)) → IsFree p m h → ClientFitsLane (take_object settings ticket reserved m x p).client h sent
got_stands settings ticket reserved m x h sent (awaits k rest) last free =
    let new = (settle settings ticket reserved rest (set_held m k (Some x))).client in
    let rests = rests_settle settings ticket reserved h rest (set_held m k (Some x)) in
    record { last = last ∙ (now_held (k == h) x (m.held h) ∙ sym (settles new h (is_some (put m.held k (Some x) h)) rests)); free = rests.free }
got_stands settings ticket reserved m x h sent _ last free = record { last = last; free = free }

begins_at_lanes : BeginsAtLanes
begins_at_lanes code size h = record { last = refl; free = tt }

sends_of : (m : ClientModel) (g : ℕ) (parcel : Parcel) → next_act m ≡ acts.Send g parcel
    → Sends (settings_of m) m.ticket (reserved_by m) (client_of m) g (client_of m).stage parcel
sends_of m g parcel is = sends_at (settings_of m) m.ticket (reserved_by m) (length m.code.blocks) (client_of m) g parcel (client_of m).stage is

sends_may_follow : SendsMayFollow
sends_may_follow m h parcel sent is stands =
    let c = client_of m in
    let s = sends_of m h parcel is in
    let last : is_asked false sent ≡ is_some (c.held h) = stands.last ∙ ap (λ b. b || is_some (c.held h)) (s.quiet h) in (
      subst (λ b. MayFollow m.size b parcel) (sym last) (s.may stands.free),
      subst (λ n. ClientFitsLane n h (sent ++ parcel ∷ [])) (sent_done m h parcel is)
          (let new = s.own stands.free in record { last = asked_last false sent parcel ∙ sym new.0; free = new.1 }),
    )

sends_keep_other_lanes : SendsKeepOtherLanes
sends_keep_other_lanes m g h parcel sent is apart stands =
    let c = client_of m in
    let s = sends_of m g parcel is in
    let last : is_asked false sent ≡ is_some (c.held h) = stands.last ∙ ap (λ b. b || is_some (c.held h)) (s.quiet h) in
    let new = s.others h apart in
    subst (λ n. ClientFitsLane n h sent) (sent_done m g parcel is) (record { last = last ∙ sym new.0; free = new.1 })

quiet_acts_keep_lanes : QuietActsKeepLanes
quiet_acts_keep_lanes m h sent quiet stands =
    subst (λ c. ClientFitsLane c h sent) (quiet_done (settings_of m) m.ticket (reserved_by m) (client_of m) (next_act m) quiet) stands

tickets_keep_lanes : TicketsKeepLanes
tickets_keep_lanes m t h sent asks stands =
    let at : ClientFitsLane m.client h sent = subst (λ c. ClientFitsLane c h sent) (asked_client m acts.Reserve asks) stands in
    let reserved = (code_at m.code t.index).reserved in
    let begun : Client = record m.client { begun = suc m.client.begun } in
    let tree = tree_at m.code t.index (locals_at m.client.stage) in
    stands_at m.client (settle (settings_of m) t reserved tree begun).client h sent at
    (not_awaited (settings_of m) (length m.code.blocks) m.client m.client.stage h acts.Reserve (λ g is. cc is) asks.1)
    (rests_settle (settings_of m) t reserved h tree begun)

objects_keep_lanes : ObjectsKeepLanes
objects_keep_lanes m g x h sent asks stands =
    let at : ClientFitsLane m.client h sent = subst (λ c. ClientFitsLane c h sent) (asked_client m (acts.Await g) asks) stands in
    got_stands (settings_of m) m.ticket (reserved_by m) m.client x h sent m.client.stage at.last at.free

chunks_keep_lanes : ChunksKeepLanes
chunks_keep_lanes m g h sent asks stands =
    let at : ClientFitsLane m.client h sent = subst (λ c. ClientFitsLane c h sent) (asked_client m (acts.NeedChunk g) asks) stands in
    let quiet = not_awaited (settings_of m) (length m.code.blocks) m.client m.client.stage h (acts.NeedChunk g) (λ k is. cc is) asks.1 in
    stands_at m.client (take_chunk (settings_of m) m.ticket (reserved_by m) m.client g m.client.stage).client h sent at quiet
    (chunk_rests (settings_of m) m.ticket (reserved_by m) m.client g h m.client.stage quiet at.free)

pub client_lane_laws : ClientLaneLaws
client_lane_laws = record {
  begins = begins_at_lanes;
  sends = sends_may_follow;
  sends_elsewhere = sends_keep_other_lanes;
  quiet = quiet_acts_keep_lanes;
  tickets = tickets_keep_lanes;
  objects = objects_keep_lanes;
  chunks = chunks_keep_lanes;
}
