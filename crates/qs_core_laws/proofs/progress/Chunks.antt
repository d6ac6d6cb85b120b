-- The chunks of each lane are four in all: in the client's hand, in the lane, in the handler's hand, and empty in the
-- spare queue. So where a client finds none that is empty, there is one in the lane or with the handler; and where a
-- handler gives one back, there is room for it. Each step keeps this. A step changes what is counted of one lane;
-- elsewhere the counts stay.
use Rattle.std.proofs.Common.{◌≡◌, ◌⊎◌, ◌+◌, inl, inr, ℕ, suc, ◌==◌, ◌&&◌, is_some, Bool, true, false, if◌then◌else◌, List, [], ◌∷◌, ◌++◌, refl, sym, ap, ◌∙◌, subst, Option, Some, None, ℤ, arith, rules}
use Rattle.qs_played.proofs.Names.{HeldState, run_one, Ticket, Request, eqb_self, num_cases, ProgramShape, Locals, put, value_of, put_here, put_there, or_stay}
use Rattle.qs_played.specs.declared.schedule.actor.Actor.{Actor}
use Rattle.qs_objects.specs.declared.held.Next.TheVariants as nexts
use Rattle.qs_graph.specs.audit.Synced.{Synced, Done, Call, Sync, Query}
use Rattle.qs_core_laws.proofs.Names.{ClientCode, blocks_in, Parcel, Handler, free, serves, spares, gives, away, closed, accept_next, accept_parcel, gave, Client, ClientStage, Settings, runs, awaits, leaves, stop_at, act_at, act_of, clear, call_act, end_block, call, query, settle, after_home, after_work, after_sync, after_end, after_parcel, take_chunk, take_object, Act, Send, NeedChunk, Finished, put_kept, Core, client_step, core_begin, core_step, gets, gives_chunk, after_handler, handler_step, put_lane, reserves_from, settings_of, takes_chunk, takes_parcel, takes_ticket, with_down, with_tickets, core_plays}
use Rattle.qs_chunk.specs.declared.parcel.Parcel.TheVariants as parcels
use Rattle.qs_handler.specs.Handler as handlers
use Rattle.qs_handler.specs.audit.Handler as handlers_audit
use Rattle.qs_played.specs.declared.schedule.actor.Actor.TheVariants as actor
use Rattle.qs_core_laws.proofs.protocol.ActKinds.{outside_not_send, outside_not_need, clears_not_need, full_not_need}
use Rattle.qs_core_laws.specs.audit.Core as core
use Rattle.qs_core_laws.proofs.HandlerSteps.{put_lane_at, put_lane_there, some_is}

-- 1 for a chunk in hand
abbrev pub opened : Option (List Request) → ℕ
opened None = 0
opened (Some rs) = 1

-- 1 for a parcel with a chunk
abbrev pub chunk_in : Parcel → ℕ
chunk_in (parcels.Work chunk) = 1
chunk_in _ = 0

abbrev pub chunks_in : List Parcel → ℕ
chunks_in [] = 0
chunks_in (p ∷ ps) = chunk_in p + chunks_in ps

-- 1 for a chunk that a handler is to give back to this client
abbrev pub to_give_back : Handler → ℕ → ℕ
to_give_back (spares t x n) c = if t.client == c then 1 else 0
to_give_back _ c = 0

abbrev one_at : ℕ → ℕ → ℕ
one_at h g = if h == g then 1 else 0

-- all chunks of a lane
abbrev pub lane_chunks : (ℕ → Client) → (ℕ → ℕ → List Parcel) → (ℕ → Handler) → (ℕ → ℕ → ℕ) → ℕ → ℕ → ℕ
lane_chunks client down handler spare c h =
    ((opened ((client c).chunk h) + chunks_in (down c h)) + to_give_back (handler h) c) + spare c h

abbrev pub AllFour : (ℕ → Client) → (ℕ → ℕ → List Parcel) → (ℕ → Handler) → (ℕ → ℕ → ℕ) → Type 0
AllFour client down handler spare = (c h : ℕ) → lane_chunks client down handler spare c h ≡ 4

abbrev pub FourChunks : Core → Type 0
FourChunks s = AllFour s.client s.down s.handler s.spare

chunks_more : (ps : List Parcel) (p : Parcel) → chunks_in (ps ++ p ∷ []) ≡ chunks_in ps + chunk_in p
chunks_more [] p = omega arith
chunks_more (q ∷ ps) p = let ih = chunks_more ps p in omega (arith, ih)

-- a chunk in hand more, or less

more_in_hand : (f : ℕ → Option (List Request)) (h : ℕ) (rs : List Request) → f h ≡ None → (g : ℕ)
    → opened (put f h (Some rs) g) ≡ opened (f g) + one_at h g
more_in_hand f h rs none g = search (rules, eqb_self, num_cases)

less_in_hand : (f : ℕ → Option (List Request)) (h : ℕ) (rs : List Request) → f h ≡ Some rs → (g : ℕ)
    → opened (put f h None g) + one_at h g ≡ opened (f g)
less_in_hand f h rs some g = search (rules, eqb_self, num_cases)

-- what a client does to its own values keeps the chunks that it has in hand
module _ (settings : Settings) (t : Ticket) (names : List ℕ) (g : ℕ) where
  leaving_opened : (m : Client) (hs : List ℕ) (l : Locals)
      → opened ((end_block settings t names m hs l).client.chunk g) ≡ opened (m.chunk g)
  leaving_opened m v l = search rules

  order_opened : (m : Client) (r : Request) (next : Synced) (hd : Option HeldState) (ck : Option (List Request))
      → m.chunk r.object ≡ ck
      → ((m : Client) → opened ((settle settings t names next m).client.chunk g) ≡ opened (m.chunk g))
      → opened ((call settings t names m r next (λ m. settle settings t names next m) hd ck).client.chunk g) ≡ opened (m.chunk g)
  order_opened m r next hd ck e ih = search (rules, put_kept)

  ask_opened : (m : Client) (r : Request) (next : ℤ → Synced) (hd : Option HeldState)
      → ((v : ℤ) (m : Client) → opened ((settle settings t names (next v) m).client.chunk g) ≡ opened (m.chunk g))
      → opened ((query settings t names m r next (λ v m. settle settings t names (next v) m) hd).client.chunk g) ≡ opened (m.chunk g)
  ask_opened m r next v ih = search rules

  sync_opened : (m : Client) (h : ℕ) (next : Synced) (b : Bool)
      → ((m : Client) → opened ((settle settings t names next m).client.chunk g) ≡ opened (m.chunk g))
      → opened ((if b then settle settings t names next m else stop_at m (runs (Sync h next))).client.chunk g) ≡ opened (m.chunk g)
  sync_opened m h next v ih = search rules

  settle_opened : (code : Synced) (m : Client)
      → opened ((settle settings t names code m).client.chunk g) ≡ opened (m.chunk g)
  settle_opened (Done l) m = leaving_opened m names l
  settle_opened (Call r next) m =
      order_opened m r next (m.held r.object) (m.chunk r.object) refl (λ m. settle_opened next m)
  settle_opened (Sync h next) m =
      sync_opened m h next (settings.dynamic && is_some (m.held h)) (λ m. settle_opened next m)
  settle_opened (Query r next) m = ask_opened m r next (m.held r.object) (λ v m. settle_opened (next v) m)

  home_opened : (m : Client) (h : ℕ) (pl : ClientStage)
      → opened ((after_home settings t names m h pl).client.chunk g) ≡ opened (m.chunk g)
  home_opened m h v = search (rules, settle_opened)

  sync_sent_opened : (m : Client) (pl : ClientStage)
      → opened ((after_sync settings t names m pl).client.chunk g) ≡ opened (m.chunk g)
  sync_sent_opened m v = search rules

  end_opened : (m : Client) (pl : ClientStage)
      → opened ((after_end settings t names m pl).client.chunk g) ≡ opened (m.chunk g)
  end_opened m v = search (rules, leaving_opened)

  got_opened : (m : Client) (x : HeldState) (pl : ClientStage)
      → opened ((take_object settings t names m x pl).client.chunk g) ≡ opened (m.chunk g)
  got_opened m x v = search (rules, settle_opened)

-- a chunk that is sent was in hand
module _ (settings : Settings) where
  pub call_work : (k : ℕ) (hd : Option HeldState) (ck : Option (List Request)) (h : ℕ) (p : Parcel) → chunk_in p ≡ 1
      → call_act settings k hd ck ≡ Send h p → (k ≡ h) × (rs : List Request) × (ck ≡ Some rs)
  call_work k hd ck h p one e = search rules

  pub clears_work : (k : ℕ) (hd : Option HeldState) (ck : Option (List Request)) (other : Act) (h : ℕ) (p : Parcel)
      → (other ≡ Send h p → ⊥) → chunk_in p ≡ 1
      → clear settings k hd ck other ≡ Send h p → (k ≡ h) × (rs : List Request) × (ck ≡ Some rs)
  clears_work k hd ck other h p never one e = search rules

  pub sync_no_work : (k h : ℕ) (p : Parcel) → chunk_in p ≡ 1 → Send k parcels.Sync ≡ Send h p → ⊥
  sync_no_work k h p one e = let is : parcels.Sync ≡ p = cc in let none = ap chunk_in is in omega (arith, none, one)

  pub end_no_work : (k h : ℕ) (p : Parcel) → chunk_in p ≡ 1 → Send k parcels.End ≡ Send h p → ⊥
  end_no_work k h p one e = let is : parcels.End ≡ p = cc in let none = ap chunk_in is in omega (arith, none, one)

  pub finished_no_send : (h : ℕ) (p : Parcel) → Finished ≡ Send h p → ⊥
  finished_no_send h p e = cc

  pub call_need : (k : ℕ) (hd : Option HeldState) (ck : Option (List Request)) (h : ℕ)
      → call_act settings k hd ck ≡ NeedChunk h → (k ≡ h) × (ck ≡ None)
  call_need k v w h e = search rules

  pub at_same : (m : Client) (h k : ℕ) (o : Option (List Request)) → k ≡ h → m.chunk k ≡ o → m.chunk h ≡ o
  at_same m h k o is e = subst (λ h. m.chunk h ≡ o) is e

  module _ (n : ℕ) (t : Ticket) (names : List ℕ) (m : Client) (h g : ℕ) where
    work_opened : (pl : ClientStage) (p : Parcel) → chunk_in p ≡ 1 → act_at settings n m pl ≡ Send h p
        → opened ((after_work settings t names m h pl).client.chunk g) + one_at h g ≡ opened (m.chunk g)
    work_opened pl p one e = search (rules, outside_not_send, call_work, settle_opened, less_in_hand, at_same, clears_work, sync_no_work, finished_no_send, end_no_work)

    none_sent : (a : ℕ) → a ≡ opened (m.chunk g) → a + (if h == g then 0 else 0) ≡ opened (m.chunk g)
    none_sent a e = search rules

    -- with the parcel, it's as before
    sent_opened : (p : Parcel) → act_of settings n m ≡ Send h p
        → opened ((after_parcel settings t names m h p).client.chunk g) + (if h == g then chunk_in p else 0) ≡ opened (m.chunk g)
    sent_opened p e = search (rules, work_opened, none_sent, home_opened, sync_sent_opened, end_opened)

    need_opened : (pl : ClientStage) → act_at settings n m pl ≡ NeedChunk h
        → opened ((take_chunk settings t names m h pl).client.chunk g) ≡ opened (m.chunk g) + one_at h g
    need_opened pl e = search (rules, outside_not_need, call_need, settle_opened, more_in_hand, at_same, clears_not_need, full_not_need)

  -- who needs a chunk has none in hand
  pub needs_none : (n : ℕ) (m : Client) (pl : ClientStage) (h : ℕ) → act_at settings n m pl ≡ NeedChunk h
      → m.chunk h ≡ None
  needs_none n m pl h e = search (rules, outside_not_need, call_need, at_same, clears_not_need, full_not_need)

-- a place that is not this one
abbrev pub Elsewhere : ℕ → ℕ → ℕ → ℕ → Type 0
Elsewhere c h d g = ((c == d) ≡ false) ⊎ ((h == g) ≡ false)

at_each : (P : ℕ → ℕ → Type 0) (c h : ℕ) → P c h → ((d g : ℕ) → Elsewhere c h d g → P d g) → (d g : ℕ) → P d g
at_each P c h here there d g = search (rules, num_cases)

pub lane_here : {A : Type 0} (f : ℕ → ℕ → A) (c h : ℕ) (a : A) → put_lane f c h a c h ≡ a
lane_here f c h a = put_lane_at f c h a c ∙ put_here (λ c. f c h) c a

pub lane_there : {A : Type 0} (f : ℕ → ℕ → A) (c h : ℕ) (a : A) (d g : ℕ) → Elsewhere c h d g
    → put_lane f c h a d g ≡ f d g
lane_there f c h a d g v = search (rules, put_there, put_lane_there)

client_there : (client : ℕ → Client) (c h : ℕ) (m : Client) (d g : ℕ)
    → ((h == g) ≡ false → opened (m.chunk g) ≡ opened ((client c).chunk g)) → Elsewhere c h d g
    → opened ((put client c m d).chunk g) ≡ opened ((client d).chunk g)
client_there client c h m d g kept v = search (rules, opened, put_there, put_kept)

handler_there : (handler : ℕ → Handler) (c h : ℕ) (v : Handler) (d g : ℕ)
    → ((c == d) ≡ false → to_give_back v d ≡ to_give_back (handler h) d) → Elsewhere c h d g
    → to_give_back (put handler h v g) d ≡ to_give_back (handler g) d
handler_there handler c h v d g kept w = search (rules, put_kept, put_there)

-- a step of a handler that changes no count of another client
kept_by_accepting : (v w : Handler) (p : Parcel) (t : Ticket) → accept_parcel v p ≡ Some w → handlers.serving v ≡ t ∷ []
    → (to_give_back v t.client ≡ 0) × (to_give_back w t.client ≡ chunk_in p) × ((d : ℕ) → (t.client == d) ≡ false → to_give_back w d ≡ to_give_back v d)
kept_by_accepting v w p t e one = search (rules, some_is, eqb_self)

kept_by_ticket : (v w : Handler) (t : Ticket) → accept_next v (nexts.Ticket t) ≡ Some w → (d : ℕ)
    → to_give_back w d ≡ to_give_back v d
kept_by_ticket v w t e d = search (rules, some_is)

module _ (code : ℕ → ClientCode) (size : ℕ) where
  module _ (s : Core) (k : FourChunks s) where
    abbrev asks_for : ℕ → Act
    asks_for c = act_of (settings_of code size c) (blocks_in code c) (s.client c)

    one_of : (test : Bool) (a s' : Core) → (if test then Some a else None) ≡ Some s' → FourChunks a → FourChunks s'
    one_of v a s' e h = search (rules, some_is)

    -- the client alone changes, and what it has in hand stays
    client_kept : (c : ℕ) (m : Client) → ((g : ℕ) → opened (m.chunk g) ≡ opened ((s.client c).chunk g))
        → AllFour (put s.client c m) s.down s.handler s.spare
    client_kept c m kept d g = search (rules, kept, put_kept)

    -- it sends
    sent_four : (c h : ℕ) (p : Parcel) (m : Client)
        → ((g : ℕ) → opened (m.chunk g) + (if h == g then chunk_in p else 0) ≡ opened ((s.client c).chunk g))
        → AllFour (put s.client c m) (put_lane s.down c h (s.down c h ++ p ∷ [])) s.handler s.spare
    sent_four c h p m sent = search (rules, at_each, eqb_self, put_here, lane_here, chunks_more, client_there, lane_there)

    -- it takes an empty chunk
    taken_four : (c h n : ℕ) (m : Client) → s.spare c h ≡ suc n
        → ((g : ℕ) → opened (m.chunk g) ≡ opened ((s.client c).chunk g) + one_at h g)
        → AllFour (put s.client c m) s.down s.handler (put_lane s.spare c h n)
    taken_four c h n m some taken = search (rules, at_each, eqb_self, put_here, lane_here, client_there, lane_there)

    send_keeps : (c h : ℕ) (p : Parcel) (s' : Core) → asks_for c ≡ Send h p → core.sends code size s c h p ≡ Some s'
        → FourChunks s'
    send_keeps c h p s' act e = search (rules, one_of, sent_four, sent_opened)

    get_keeps : (c h : ℕ) (o : Option HeldState) (s' : Core) → gets code size s c h o ≡ Some s' → FourChunks s'
    get_keeps c h o s' e = search (rules, some_is, client_kept, got_opened)

    chunk_keeps : (c h n : ℕ) (s' : Core) → s.spare c h ≡ n → asks_for c ≡ NeedChunk h
        → takes_chunk code size s c h n ≡ Some s' → FourChunks s'
    chunk_keeps c h n s' some act e = search (rules, some_is, taken_four, need_opened)

    reserve_keeps : (c : ℕ) (pl : ClientStage) (s' : Core) → reserves_from code size s c pl ≡ Some s' → FourChunks s'
    reserve_keeps c pl s' e = search (rules, some_is, client_kept, settle_opened)

    client_acts : (c : ℕ) (act : Act) (s' : Core) → asks_for c ≡ act → client_step code size s c act ≡ Some s'
        → FourChunks s'
    client_acts c act s' act' e = search (rules, reserve_keeps, send_keeps, get_keeps, chunk_keeps)

    -- the handler alone changes, and what it is to give back stays
    handler_kept : (h : ℕ) (v : Handler) → ((d : ℕ) → to_give_back v d ≡ to_give_back (s.handler h) d)
        → AllFour s.client s.down (put s.handler h v) s.spare
    handler_kept h v kept d g = search (rules, kept, put_kept)

    ticket_keeps : (h : ℕ) (ts : List Ticket) (s' : Core) → takes_ticket code size s h ts ≡ Some s' → FourChunks s'
    ticket_keeps h ts s' e = search (rules, some_is, handler_kept, kept_by_ticket)

    parcel_keeps : (h : ℕ) (t : Ticket) (ps : List Parcel) (s' : Core) → handlers.serving (s.handler h) ≡ t ∷ []
        → s.down t.client h ≡ ps → takes_parcel code size s h t.client ps ≡ Some s' → FourChunks s'
    parcel_keeps h t ps s' one lies e = search (rules, some_is, at_each, lane_here, put_here, lane_there, handler_there, kept_by_accepting)

    give_keeps : (h : ℕ) (t : Ticket) (x : HeldState) (o : Option HeldState) (s' : Core) → s.handler h ≡ gives t x
        → core.gives code size s h t.client x o ≡ Some s' → FourChunks s'
    give_keeps h t x w s' v e = search (rules, some_is, handler_kept)

    spare_keeps : (h : ℕ) (t : Ticket) (x : HeldState) (n : ℕ) (s' : Core) → s.handler h ≡ spares t x n
        → gives_chunk code size s h t.client ≡ Some s' → FourChunks s'
    spare_keeps h t x n s' v e = search (rules, one_of, at_each, eqb_self, put_here, lane_here, lane_there, handler_there)

    handler_acts : (h : ℕ) (v : Handler) (s' : Core) → s.handler h ≡ v
        → handler_step code size s h (handlers_audit.act_of v) ≡ Some s' → FourChunks s'
    handler_acts h (free x) s' v e = ticket_keeps h (s.tickets h) s' e
    handler_acts h (serves t x) s' v e = parcel_keeps h t (s.down t.client h) s' (ap handlers.serving v) refl e
    handler_acts h (spares t x n) s' v e = spare_keeps h t x n s' v e
    handler_acts h (gives t x) s' v e = give_keeps h t x (s.up t.client h) s' v e
    handler_acts h (away t) s' v e = parcel_keeps h t (s.down t.client h) s' (ap handlers.serving v) refl e
    handler_acts h (closed x) s' v e = absurd (cc)

    step_four : (a : Actor) (s' : Core) → core_step code size s a ≡ Some s' → FourChunks s'
    step_four v s' e = search (rules, client_acts, handler_acts)

  stays_four : (s : Core) (o : Option Core) → ((s' : Core) → o ≡ Some s' → FourChunks s') → FourChunks s
      → FourChunks (or_stay s o)
  stays_four s v step k = search rules

  pub plays_four : (actors : List Actor) (s : Core) → FourChunks s → FourChunks (core_plays code size actors s)
  plays_four [] s k = k
  plays_four (a ∷ rest) s k = search (rules, stays_four, step_four, plays_four rest (or_stay s (core_step code size s a)) (stays_four s (core_step code size s a) (λ s' e. step_four s k a s' e) k))

  -- after every list of actors
  pub run_four : (program : ProgramShape) (actors : List Actor)
      → FourChunks (core_plays code size actors (core_begin program))
  run_four program actors = plays_four actors (core_begin program) (λ c h. refl)
