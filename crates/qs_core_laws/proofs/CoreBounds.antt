-- In each state that the optimised machine comes to, chunks have the machine's size, clients beyond the program do
-- nothing, and a block that was not begun has neither values at entry nor a trace. What the code may rely on in such
-- states (`CoreReached`) takes these facts from here. They are one invariant, `CoreBounded`, which each step keeps, by
-- cases on the actor and its act.
use Rattle.std.proofs.Common.{◌≡◌, ◌<◌, ◌≤◌, ◌-◌, ℕ, suc, nat_lt, ◌==◌, Bool, true, false, if◌then◌else◌, List, [], ◌∷◌, ◌++◌, length, refl, sym, ap, ◌∙◌, subst, ⊎_elim, Option, Some, None, arith, rules}
use Rattle.qs_played.proofs.Names.{AllByRecursion, SyncCount, HeldState, same, Event, Ticket, Request, num_cases, ticket_cases, ProgramShape, zeros, put, IsSound, Locals, each_snoc, put_here, put_there, ticket, or_stay}
use Rattle.qs_played.specs.declared.schedule.actor.Actor.{Actor}
use Rattle.qs_objects.specs.declared.held.Next.TheVariants as nexts
use Rattle.qs_core_laws.proofs.Names.{Mode, ClientCode, AreCodes, blocks_in, reserved_of, HasSize, Parcel, Handler, free, serves, spares, gives, away, closed, accept_next, accept_parcel, gave, Client, ClientStage, Settings, Settlement, act_at, act_of, between, begin, call_act, clear, first_client, after_parcel, work, Act, Reserve, Send, Await, NeedChunk, Finished, none_beyond, put_all, put_at, put_at_there, put_kept, lane_room, spare_room, Core, client_step, core_begin, core_step, gets, gives_chunk, after_handler, handler_step, put_lane, reserves_from, settings_of, takes_chunk, takes_parcel, takes_ticket, with_down, with_tickets, synced_block, core_plays}
use Rattle.qs_chunk.specs.declared.parcel.Parcel.TheVariants as parcels
use Rattle.qs_handler.specs.audit.Handler as handlers
use Rattle.qs_played.specs.declared.schedule.actor.Actor.TheVariants as actor
use Rattle.qs_core_laws.proofs.protocol.ActKinds.{outside_not_send}
use Rattle.qs_core_laws.proofs.protocol.ActObjects.{sent_begun, got_begun, chunk_begun, settle_begun, not_send, not_await, not_need}
use Rattle.qs_core_laws.proofs.protocol.ProgramTrees.{blocks_are}
use Rattle.qs_core_laws.proofs.HandlerSteps.{some_is}
use Rattle.qs_core_laws.proofs.CoreSteps.{HasInvariant, begin_kept, begun_by, is_between, step_kept}
use Rattle.qs_core_laws.specs.audit.Core as core

-- what a client sends has the chunks' size

call_sizes : (settings : Settings) (g : ℕ) (hd : Option HeldState) (ck : Option (List Request)) (h : ℕ) (parcel : Parcel) → call_act settings g hd ck ≡ Send h parcel → HasSize settings.size parcel
call_sizes settings g v ck h parcel e = search rules

clears_sizes : (settings : Settings) (g : ℕ) (hd : Option HeldState) (ck : Option (List Request)) (other : Act) (h : ℕ) (parcel : Parcel)
    → (other ≡ Send h parcel → HasSize settings.size parcel) → clear settings g hd ck other ≡ Send h parcel → HasSize settings.size parcel
clears_sizes settings g v ck other h parcel more e = search rules

sync_sizes : (settings : Settings) (g h : ℕ) (parcel : Parcel) → Send g parcels.Sync ≡ Send h parcel → HasSize settings.size parcel
sync_sizes settings g h parcel e = let is : parcels.Sync ≡ parcel = cc in subst (HasSize settings.size) is tt

end_sizes : (settings : Settings) (g h : ℕ) (parcel : Parcel) → Send g parcels.End ≡ Send h parcel → HasSize settings.size parcel
end_sizes settings g h parcel e = let is : parcels.End ≡ parcel = cc in subst (HasSize settings.size) is tt

sends_sizes : (settings : Settings) (n : ℕ) (m : Client) (pl : ClientStage) (h : ℕ) (parcel : Parcel) → act_at settings n m pl ≡ Send h parcel → HasSize settings.size parcel
sends_sizes settings n m pl h parcel e = search (rules, outside_not_send, call_sizes, clears_sizes, sync_sizes, end_sizes)

-- an empty chunk that a handler gives back
abbrev pub GivesBack : ℕ → Handler → Type 0
GivesBack size v = (t : Ticket) (x : HeldState) (n : ℕ) → v ≡ spares t x n → n ≡ size

received_back : (size : ℕ) (v w : Handler) (parcel : Parcel) → HasSize size parcel → accept_parcel v parcel ≡ Some w → GivesBack size w
received_back size v w parcel sized e u z n is = search rules

taken_back : (size : ℕ) (v w : Handler) (t : Ticket) → accept_next v (nexts.Ticket t) ≡ Some w → GivesBack size w
taken_back size v w t e u z n is = search rules

gave_back : (size : ℕ) (v : Handler) → GivesBack size v → GivesBack size (gave v)
gave_back size v b u z n is = search rules

-- each lane of a client and a handler
lane_holds : {A : Type 0} (P : A → Type 0) (f : ℕ → ℕ → A) (c h : ℕ) (a : A) → P a → ((d g : ℕ) → P (f d g)) → (d g : ℕ) → P (put_lane f c h a d g)
lane_holds P f c h a new old d g = put_all (λ d (row : ℕ → _). (g : ℕ) → P (row g)) f c (put (f c) h a) (put_all (λ g b. P b) (f c) h a new (λ g other. old c g)) (λ d other. old d) d g

module _ (program : ProgramShape) (sound : IsSound program) (mode : Mode) (code : ℕ → ClientCode) (codes : AreCodes program mode code) (size : ℕ) where
  pub record CoreBounded (s : Core) : Type 0 where
    pub sizes : (c h : ℕ) → AllByRecursion (HasSize size) (s.down c h)
    pub back : (h : ℕ) → GivesBack size (s.handler h)
    pub idle : (c : ℕ) → length program.clients ≤ c → s.client c ≡ first_client zeros
    pub fresh : (t : Ticket) → (s.client t.client).begun ≤ t.index → (s.entry t ≡ []) × (s.trace t ≡ [])

  abbrev KeptOf : Core → Type 0
  KeptOf s = HasInvariant program sound mode code codes size s

  module _ (s : Core) (k : KeptOf s) (b : CoreBounded s) where
    abbrev asks_for : ℕ → Act
    asks_for c = act_of (settings_of code size c) (blocks_in code c) (s.client c)

    one_of : (test : Bool) (a s' : Core) → (if test then Some a else None) ≡ Some s' → CoreBounded a → CoreBounded s'
    one_of v a s' e h = search (rules, some_is)

    -- a client that is in a block is the program's
    client_inside : (c n : ℕ) → (s.client c).begun ≡ suc n → c < length program.clients
    client_inside c n begun = search rules

    -- a client's act in a block
    client_bounded : (c n : ℕ) (m : Client) (events : List Event) (down : ℕ → ℕ → List Parcel) (up : ℕ → ℕ → Option HeldState) (spare : ℕ → ℕ → ℕ) (syncs : ℕ → ℕ) (tallies : Ticket → List SyncCount)
        → (s.client c).begun ≡ suc n → m.begun ≡ (s.client c).begun → ((d h : ℕ) → AllByRecursion (HasSize size) (down d h))
        → CoreBounded (record s { client = put s.client c m; trace = put_at s.trace (ticket c n) (s.trace (ticket c n) ++ events); down = down; up = up; spare = spare; syncs = syncs; sync_counts = tallies })
    client_bounded c n m events down up spare syncs tallies begun same_begun sizes = search (rules, put_there, put_kept, put_at_there, ticket_cases, client_inside, num_cases)

    abbrev now : ℕ → Ticket
    now c = ticket c ((s.client c).begun - 1)

    begun_of : (c : ℕ) (act : Act) → asks_for c ≡ act → ((l : Locals) → (s.client c).stage ≡ between l → asks_for c ≡ act → ⊥) → (s.client c).begun ≡ suc ((s.client c).begun - 1)
    begun_of c act e non = begun_by program sound mode code codes size s k.0 k.1 k.2 c act e non

    send_bounded : (c h : ℕ) (parcel : Parcel) (s' : Core) → asks_for c ≡ Send h parcel → core.sends code size s c h parcel ≡ Some s' → CoreBounded s'
    send_bounded c h parcel s' act e =
        one_of (nat_lt (length (s.down c h)) lane_room) _ s' e
        (client_bounded c ((s.client c).begun - 1) (after_parcel (settings_of code size c) (now c) (reserved_of code (now c)) (s.client c) h parcel).client
        (after_parcel (settings_of code size c) (now c) (reserved_of code (now c)) (s.client c) h parcel).events
        (put_lane s.down c h (s.down c h ++ parcel ∷ [])) s.up s.spare (core.syncs_after code size s.syncs c parcel) (core.sync_counts_after code size s.sync_counts (now c) h parcel)
        (begun_of c (Send h parcel) act (λ l i a. not_send (settings_of code size c) (blocks_in code c) (s.client c) l h parcel i a))
        (sent_begun (settings_of code size c) (now c) (reserved_of code (now c)) (s.client c) h parcel)
        (lane_holds (AllByRecursion (HasSize size)) s.down c h (s.down c h ++ parcel ∷ [])
        (each_snoc (HasSize size) (s.down c h) parcel (b.sizes c h) (sends_sizes (settings_of code size c) (blocks_in code c) (s.client c) (s.client c).stage h parcel act)) b.sizes))

    get_bounded : (c h : ℕ) (o : Option HeldState) (s' : Core) → asks_for c ≡ Await h → gets code size s c h o ≡ Some s' → CoreBounded s'
    get_bounded c h o s' act e = search (rules, some_is, client_bounded, begun_of, not_await, got_begun)

    chunk_bounded : (c h n : ℕ) (s' : Core) → asks_for c ≡ NeedChunk h → takes_chunk code size s c h n ≡ Some s' → CoreBounded s'
    chunk_bounded c h n s' act e = search (rules, some_is, client_bounded, begun_of, not_need, chunk_begun)

    -- a client beyond the program has ended
    pub beyond_acts : (c : ℕ) → length program.clients ≤ c → asks_for c ≡ Finished
    beyond_acts c out = search (rules, blocks_are, none_beyond, b)

    not_reserve : Finished ≡ Reserve → ⊥
    not_reserve e = cc

    reserve_bounded : (c : ℕ) (l : Locals) (s' : Core) → asks_for c ≡ Reserve → reserves_from code size s c (between l) ≡ Some s' → CoreBounded s'
    reserve_bounded c l s' act e = grind (arith, settle_begun, some_is, b, put_there, put_here, put_at_there, ticket_cases, not_reserve, beyond_acts, num_cases, put_all)

    client_acts : (c : ℕ) (act : Act) (s' : Core) → asks_for c ≡ act → client_step code size s c act ≡ Some s' → CoreBounded s'
    client_acts c Reserve s' act e =
        let at = is_between program sound mode code codes size s k.0 k.1 k.2 c (s.client c).begun refl act in
        reserve_bounded c at.0 s' act (sym (ap (reserves_from code size s c) at.1) ∙ e)
    client_acts c (Send h parcel) s' act e = send_bounded c h parcel s' act e
    client_acts c (Await h) s' act e = get_bounded c h (s.up c h) s' act e
    client_acts c (NeedChunk h) s' act e = chunk_bounded c h (s.spare c h) s' act e
    client_acts c Finished s' act e = absurd (cc)

    -- a handler's step
    handler_bounded : (h : ℕ) (v : Handler) (down : ℕ → ℕ → List Parcel) (up : ℕ → ℕ → Option HeldState) (spare : ℕ → ℕ → ℕ) (tickets : ℕ → List Ticket)
        → GivesBack size v → ((d g : ℕ) → AllByRecursion (HasSize size) (down d g))
        → CoreBounded (record s { handler = put s.handler h v; down = down; up = up; spare = spare; tickets = tickets })
    handler_bounded h v down up spare tickets back sizes = search (rules, put_all)

    ticket_bounded : (h : ℕ) (ts : List Ticket) (s' : Core) → takes_ticket code size s h ts ≡ Some s' → CoreBounded s'
    ticket_bounded h ts s' e = search (rules, some_is, handler_bounded, taken_back)

    parcel_bounded : (h c : ℕ) (ps : List Parcel) (s' : Core) → AllByRecursion (HasSize size) ps → takes_parcel code size s h c ps ≡ Some s' → CoreBounded s'
    parcel_bounded h c [] s' sized e = absurd (cc)
    parcel_bounded h c (parcel ∷ ps) s' sized e = by_next (accept_parcel (s.handler h) parcel) refl e
      where
        by_next : (o : Option Handler) → accept_parcel (s.handler h) parcel ≡ o → after_handler code size (with_down code size s c h ps) h o ≡ Some s' → CoreBounded s'
        by_next None o e = absurd (cc)
        by_next (Some v) o e =
            subst CoreBounded (some_is _ s' e)
            (handler_bounded h v (put_lane s.down c h ps) s.up s.spare s.tickets (received_back size (s.handler h) v parcel sized.0 o)
            (lane_holds (AllByRecursion (HasSize size)) s.down c h ps sized.1 b.sizes))

    give_bounded : (h c : ℕ) (x : HeldState) (o : Option HeldState) (s' : Core) → core.gives code size s h c x o ≡ Some s' → CoreBounded s'
    give_bounded h c x v s' e = search (rules, some_is, handler_bounded, gave_back, b)

    spare_bounded : (h c : ℕ) (s' : Core) → gives_chunk code size s h c ≡ Some s' → CoreBounded s'
    spare_bounded h c s' e = search (rules, one_of, handler_bounded, gave_back, b)

    handler_acts : (h : ℕ) (v : Handler) (s' : Core) → handler_step code size s h (handlers.act_of v) ≡ Some s' → CoreBounded s'
    handler_acts h v s' e = search (rules, ticket_bounded, parcel_bounded, spare_bounded, give_bounded)

    pub step_bounded : (a : Actor) (s' : Core) → core_step code size s a ≡ Some s' → CoreBounded s'
    step_bounded v s' e = search (rules, client_acts, handler_acts)

  stays_both : (s : Core) (o : Option Core) → ((s' : Core) → o ≡ Some s' → KeptOf s' × CoreBounded s') → KeptOf s × CoreBounded s → KeptOf (or_stay s o) × CoreBounded (or_stay s o)
  stays_both s None step k = k
  stays_both s (Some s') step k = step s' refl

  pub plays_both : (actors : List Actor) (s : Core) → KeptOf s × CoreBounded s → KeptOf (core_plays code size actors s) × CoreBounded (core_plays code size actors s)
  plays_both [] s k = k
  plays_both (a ∷ rest) s k =
      plays_both rest (or_stay s (core_step code size s a))
      (stays_both s (core_step code size s a) (λ s' e. (step_kept program sound mode code codes size s k.0.0 k.0.1 k.0.2 a s' e, step_bounded s k.0 k.1 a s' e)) k)

  begin_bounded : CoreBounded (core_begin program)
  begin_bounded = record { sizes = λ c h. tt; back = λ h t x n e. absurd (cc); idle = λ c out. refl; fresh = λ t few. (refl, refl) }

  pub run_both : (actors : List Actor) → KeptOf (core_plays code size actors (core_begin program)) × CoreBounded (core_plays code size actors (core_begin program))
  run_both actors = plays_both actors (core_begin program) (begin_kept program sound mode code codes size, begin_bounded)
