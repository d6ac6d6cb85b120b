-- In each state that the optimised machine comes to, a client that stands with a full chunk has that chunk. So a client
-- without an act is between two blocks. Each step of a client keeps it, by the lemmas on clients, and a handler's step
-- changes no client.
use Rattle.std.proofs.Common.{◌≡◌, ◌-◌, ℕ, zero, suc, nat_lt, Bool, true, false, if◌then◌else◌, List, [], ◌∷◌, length, refl, subst, Option, Some, None, rules, arith}
use Rattle.qs_played.proofs.Names.{HeldState, Ticket, ProgramShape, put, ticket, or_stay}
use Rattle.qs_played.specs.declared.schedule.actor.Actor.{Actor}
use Rattle.qs_objects.specs.declared.held.Next.TheVariants as nexts
use Rattle.qs_core_laws.proofs.Names.{ClientCode, blocks_in, reserved_of, lane_room, Parcel, Handler, accept_next, accept_parcel, Client, ClientStage, act_of, Act, put_all, Core, client_step, core_begin, core_step, gets, after_handler, handler_step, reserves_from, settings_of, takes_chunk, takes_parcel, takes_ticket, with_down, with_tickets, core_plays}
use Rattle.qs_handler.specs.audit.Handler as handlers
use Rattle.qs_handler.specs.declared.mind.Act as handler_acts
use Rattle.qs_played.specs.declared.schedule.actor.Actor.TheVariants as actor
use Rattle.qs_core_laws.proofs.protocol.FullChunks.{HasFull, chunk_full, got_full, sent_full, settle_full}
use Rattle.qs_core_laws.specs.audit.Core as core
use Rattle.qs_core_laws.proofs.HandlerSteps.{some_is}

abbrev pub AllFull : (ℕ → Client) → Type 0
AllFull client = (c : ℕ) → HasFull (client c) (client c).stage

module _ (code : ℕ → ClientCode) (size : ℕ) where
  module _ (s : Core) (k : AllFull s.client) where
    abbrev now : ℕ → Ticket
    now c = ticket c ((s.client c).begun - 1)

    comes : (c : ℕ) (m : Client) → HasFull m m.stage → AllFull (put s.client c m)
    comes c m new = put_all (λ d (m : Client). HasFull m m.stage) s.client c m new (λ d other. k d)

    abbrev IsFull : Core → Type 0
    IsFull t = AllFull t.client

    one_of : (test : Bool) (a s' : Core) → (if test then Some a else None) ≡ Some s' → IsFull a → IsFull s'
    one_of v a s' e h = search (rules, some_is)

    send_keeps : (c h : ℕ) (p : Parcel) (s' : Core) → core.sends code size s c h p ≡ Some s' → IsFull s'
    send_keeps c h p s' e = search (rules, one_of, comes, sent_full, now)

    get_keeps : (c h : ℕ) (o : Option HeldState) (s' : Core) → gets code size s c h o ≡ Some s' → IsFull s'
    get_keeps c h v s' e = search (rules, some_is, comes, got_full, now)

    chunk_keeps : (c h n : ℕ) (s' : Core) → takes_chunk code size s c h n ≡ Some s' → IsFull s'
    chunk_keeps c h v s' e = search (rules, some_is, comes, chunk_full, now)

    reserve_keeps : (c : ℕ) (pl : ClientStage) (s' : Core) → reserves_from code size s c pl ≡ Some s' → IsFull s'
    reserve_keeps c pl s' e = search (rules, some_is, comes, settle_full)

    client_acts : (c : ℕ) (act : Act) (s' : Core) → client_step code size s c act ≡ Some s' → IsFull s'
    client_acts c act s' e = search (rules, reserve_keeps, send_keeps, get_keeps, chunk_keeps)

    after_keeps : (a : Core) (h : ℕ) (o : Option Handler) (s' : Core) → IsFull a
        → after_handler code size a h o ≡ Some s' → IsFull s'
    after_keeps a h w s' old e = search (rules, some_is)

    ticket_keeps : (h : ℕ) (ts : List Ticket) (s' : Core) → takes_ticket code size s h ts ≡ Some s' → IsFull s'
    ticket_keeps h v s' e = search (rules, after_keeps)

    parcel_keeps : (h c : ℕ) (ps : List Parcel) (s' : Core) → takes_parcel code size s h c ps ≡ Some s' → IsFull s'
    parcel_keeps h c v s' e = search (rules, after_keeps)

    give_keeps : (h c : ℕ) (x : HeldState) (o : Option HeldState) (s' : Core) → core.gives code size s h c x o ≡ Some s'
        → IsFull s'
    give_keeps h c x v s' e = search (rules, some_is)

    handler_keeps : (h : ℕ) (act : handler_acts.Act) (s' : Core) → handler_step code size s h act ≡ Some s' → IsFull s'
    handler_keeps h act s' e = search (rules, ticket_keeps, parcel_keeps, give_keeps, one_of)

    step_full : (a : Actor) (s' : Core) → core_step code size s a ≡ Some s' → IsFull s'
    step_full v s' e = search (rules, client_acts, handler_keeps)

  stays_full : (s : Core) (o : Option Core) → ((s' : Core) → o ≡ Some s' → AllFull s'.client) → AllFull s.client
      → AllFull (or_stay s o).client
  stays_full s v step k = search rules

  plays_full : (actors : List Actor) (s : Core) → AllFull s.client → AllFull (core_plays code size actors s).client
  plays_full [] s k = k
  plays_full (a ∷ rest) s k = search (rules, stays_full, step_full, plays_full rest (or_stay s (core_step code size s a)) (stays_full s (core_step code size s a) (λ s' e. step_full s k a s' e) k))

  -- after every list of actors
  pub run_full : (program : ProgramShape) (actors : List Actor)
      → AllFull (core_plays code size actors (core_begin program)).client
  run_full program actors = plays_full actors (core_begin program) (λ c. tt)
