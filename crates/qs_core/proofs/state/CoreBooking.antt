-- After a client has reserved a block, or a handler has taken a ticket, the code's lists are the optimised machine
-- after that step, and what the code keeps still holds. The code's calls that reserve a block and take a ticket promise
-- this. The step is known for functions of numbers, and the changed lists are read as these functions; there is room,
-- as no order has more tickets than the program has blocks.
use Rattle.std.proofs.Common.{◌≡◌, ◌<◌, ◌≤◌, ℕ, ◌+◌, ◌==◌, ◌||◌, Bool, true, nat_lt, if◌then◌else◌, List, [], ◌∷◌, ◌++◌, length, filter, get_or, Option, Some, None, refl, sym, ap, subst, ◌∙◌, arith, rules}
use Rattle.qs_played.proofs.Names.{AllByRecursion, set, fun_ext, length-append, length-set, HeldState, Ticket, Request, AllByRecursion-get_or, block_at, blocks_of, put, is_in, IsSound, IsSoundBlock, Locals, sound_block, ticket}
use Rattle.qs_played.specs.declared.schedule.actor.Actor.{Actor}
use Rattle.qs_objects.specs.declared.held.Next.TheVariants as nexts
use Rattle.qs_graph.specs.audit.Synced.{Call, Sync}
use Rattle.qs_core_laws.proofs.Names.{ClientCode, IsCodeOf, code_at, AreCodes, serving, acts_lose_nothing, ClientStage, act_at, between, runs, full, leaves, call_act, clear, IsMind, mind_of, Act, Core, core_step, before_it}
use Rattle.qs_chunk.specs.declared.parcel.Parcel.TheVariants as parcels
use Rattle.qs_handler.specs.audit.Handler.{Handler, act_of, accept_next}
use Rattle.qs_handler.specs.declared.mind.Act.TheVariants as acts
use Rattle.qs_client.specs.audit.ClientModel.{ClientModel, act_due, mind_after_begin, mind_after_begin_with, locals_at, settings_of}
use Rattle.qs_client.specs.declared.rules.act.Act.TheVariants as wants
use Rattle.qs_played.specs.declared.schedule.actor.Actor.TheVariants as actor
use Rattle.qs_core_laws.specs.CoreReached.{CoreStands, IsBegun, ReachedCore}
use Rattle.qs_core.specs.parts.CoreClients.{AreStocked, CoreClientState, IsCoreClient, whole_of}
use Rattle.qs_core.proofs.Names.{CanEnterAll, CoreHandlerState, IsCoreHandler, TakesTicket, with_ticket_at_all, handler_with_act, no_core_handler, core_handler_at}
use Rattle.qs_core.proofs.parts.CoreMinds.{whole_mind}
use Rattle.qs_core.proofs.parts.ClientModels.{IsFormedOf}
use Rattle.qs_core.specs.state.CoreState.{CoreKeeps, CoreState, CoreSteps, IsCoreState, IsSide, ClientPart, all_blocks, codes_of, core_from, core_of, core_handler_of, client_part_at, client_part, tickets_at}
use Rattle.qs_core.proofs.state.CoreEntering.{can_enter, handlers_entered, length_entered, order_few, rooms_entered, tickets_entered}
use Rattle.qs_core.proofs.state.CoreFields.{each, field_kept}
use Rattle.qs_core.proofs.state.CoreLists.{all_set, handler_put, map_here, side_put, tickets_put_at}
use Rattle.qs_core.proofs.state.CoreMoves.{all_put}
use Rattle.qs_core.proofs.state.HandlerFields as handlers
use Rattle.qs_core.proofs.state.CoreReserving as reserving

-- what holds of each member holds of all
members : (rs : List ℕ) (P : ℕ → Type 0) → ((h : ℕ) → is_in rs h ≡ true → P h) → AllByRecursion P rs
members [] P each = tt
members (x ∷ rs) P each = (each x self, members rs P (λ h m. each h (by_test h (x == h) m)))
  where
    self : is_in (x ∷ rs) x ≡ true
    self = let same : (x == x) ≡ true = grind arith in rw same refl

    by_test : (h : ℕ) (b : Bool) → is_in rs h ≡ true → (b || is_in rs h) ≡ true
    by_test h v m = search rules

member_of : (rs : List ℕ) (h : ℕ) {n : ℕ} → is_in rs h ≡ true → AllByRecursion (λ k. k < n) rs → h < n
member_of [] h member all = cc
member_of (x ∷ rs) h {n} member all = by_test (x == h) refl member (λ m. member_of rs h m all.1)
  where
    by_test : (b : Bool) → (x == h) ≡ b → (b || is_in rs h) ≡ true → (is_in rs h ≡ true → h < n) → h < n
    by_test v e m later = grind arith

-- a client that wants to reserve stands between blocks, with one to come
pub reserving_at : (n : ClientModel) → act_due n ≡ wants.Reserve → (l : Locals) × (n.client.stage ≡ between l) × (n.client.begun < length n.code.blocks)
reserving_at n asked = by_place n.client.stage refl asked
  where
    not_cleared : (h : ℕ) (x : Option HeldState) (k : Option (List Request)) (other : Act) → (other ≡ wants.Reserve → ⊥) → clear (settings_of n) h x k other ≡ wants.Reserve → ⊥
    not_cleared h v k other differs is = search rules

    by_place : (p : ClientStage) → n.client.stage ≡ p → act_at (settings_of n) (length n.code.blocks) n.client p ≡ wants.Reserve → (l : Locals) × (n.client.stage ≡ between l) × (n.client.begun < length n.code.blocks)
    by_place (between l) e a = by_count (nat_lt n.client.begun (length n.code.blocks)) refl a
      where
        by_count : (b : Bool) → nat_lt n.client.begun (length n.code.blocks) ≡ b → (if b then wants.Reserve else wants.Finished) ≡ wants.Reserve → (l : Locals) × (n.client.stage ≡ between l) × (n.client.begun < length n.code.blocks)
        by_count v less is = grind arith
    by_place (runs (Call r next)) e a = by_hands (n.client.held r.object) (n.client.chunk r.object) a
      where
        by_hands : (x : Option HeldState) (k : Option (List Request)) → call_act (settings_of n) r.object x k ≡ wants.Reserve → (l : Locals) × (n.client.stage ≡ between l) × (n.client.begun < length n.code.blocks)
        by_hands v k is = search rules
    by_place (runs (Sync h next)) e a = absurd (not_cleared h (n.client.held h) (n.client.chunk h) (wants.Send h parcels.Sync) (λ is. cc) a)
    by_place (full h rest) e a = absurd (not_cleared h None (n.client.chunk h) wants.Finished (λ is. cc) a)
    by_place (leaves h hs l) e a = absurd (not_cleared h (n.client.held h) (n.client.chunk h) (wants.Send h parcels.End) (λ is. cc) a)
    by_place _ e a = cc

module _ (s : CoreState) (kept : IsCoreState s) (sound : IsSound s.program) (keeps : CoreKeeps s)
    (keeps_on : (a : Actor) (x : Core) → core_step (codes_of s) s.size (core_of s) a ≡ Some x → ReachedCore s.program (codes_of s) s.size x)
    (c : ℕ) (inside : c < length s.clients) (old : CoreClientState) (here : client_part_at s.clients c ≡ client_part old)
    (formed : IsCoreClient old) (stocked : AreStocked old) (ok : IsMind (mind_of old.mind)) (asked : old.act ≡ wants.Reserve) where
  abbrev own : ClientModel
  own = whole_of old

  abbrev host : ClientModel
  host = (client_part_at s.clients c).mind

  own_ok : IsMind own
  own_ok = whole_mind old formed ok

  host_is : host ≡ own
  host_is = ap (λ (x : ClientPart). x.mind) here

  abbrev pub now : Ticket
  now = ticket c own.client.begun

  abbrev pub list : List ℕ
  list = (block_at s.program c own.client.begun).reserved

  wants_it : act_due host ≡ wants.Reserve
  wants_it = ap act_due host_is ∙ sym formed.act ∙ asked

  room : (l : Locals) × (host.client.stage ≡ between l) × (host.client.begun < length host.code.blocks)
  room = reserving_at host wants_it

  k_less : own.client.begun < length own.code.blocks
  k_less = subst (λ (m : ClientModel). m.client.begun < length m.code.blocks) host_is room.2

  size_is : host.size ≡ s.size
  size_is = (kept.sides c inside).size

  in_program : c < length s.program.clients
  in_program = omega (arith, inside, kept.clients)

  keeps_code : IsCodeOf s.program kept.mode c host.code
  keeps_code = kept.codes.own c in_program

  pub in_blocks : own.client.begun < blocks_of s.program c
  in_blocks = let code_is : host.code ≡ own.code = ap (λ (m : ClientModel). m.code) host_is in let m : length own.code.blocks ≡ blocks_of s.program c = ap (λ (x : ClientCode). length x.blocks) (sym code_is) ∙ keeps_code.count in omega (arith, k_less, m)

  list_is : (code_at host.code own.client.begun).reserved ≡ list
  list_is = (keeps_code.blocks own.client.begun in_blocks).reserved

  block_sound : IsSoundBlock s.program.objects (block_at s.program c own.client.begun)
  block_sound = sound_block s.program c own.client.begun sound in_program in_blocks

  pub handlers_exist : AllByRecursion (λ h. h < length s.handlers) list
  handlers_exist = subst (λ n. AllByRecursion (λ h. h < n) list) (sym kept.handlers) block_sound.reserved

  -- the machine after the step
  abbrev next : Core
  next = core_from (s.order ++ ticket c host.client.begun ∷ [])
      (put (client_part_at s.clients) c (reserving.reserved_side s.order (client_part_at s.clients) (core_handler_of s.program s.handlers) (tickets_at s.handlers) c room.0))
      (core_handler_of s.program s.handlers)
      (reserving.more_tickets s.order (client_part_at s.clients) (core_handler_of s.program s.handlers) (tickets_at s.handlers) c room.0)

  fresh : get_or host.traces host.client.begun [] ≡ []
  unfolding core_of ReachedCore
  fresh = (keeps.tickets.fresh (ticket c host.client.begun) (omega arith)).1

  host_ok : IsMind host
  host_ok = subst IsMind (sym host_is) own_ok

  stepped : core_step (codes_of s) s.size (core_of s) (actor.Client c) ≡ Some next
  unfolding core_of
  stepped =
      subst (λ n. core_step (codes_of s) n (core_of s) (actor.Client c) ≡ Some next) size_is
      (reserving.reserve_steps s.order (client_part_at s.clients) (core_handler_of s.program s.handlers) (tickets_at s.handlers) c room.0 room.1 wants_it host_ok.entries (omega (arith, host_ok.traces, room.2)) fresh)

  then : CoreStands s.program (codes_of s) s.size next
  unfolding ReachedCore
  then = keeps_on (actor.Client c) next stepped

  -- the order has room, and each handler of the list
  pub order_room : length s.order < all_blocks s.program
  order_room =
      let few : length next.order ≤ all_blocks s.program =
      order_few (blocks_of s.program) (length s.program.clients) next.order (begun_clients next.order then.tickets.order) (λ k. counted_few k) in
      let more : length (s.order ++ ticket c host.client.begun ∷ []) ≡ length s.order + 1 = length_more s.order (ticket c host.client.begun) in
      omega (arith, few, more)
    where
      length_more : (ts : List Ticket) (t : Ticket) → length (ts ++ t ∷ []) ≡ length ts + 1
      length_more [] t = refl
      length_more (u ∷ ts) t = let m = length_more ts t in omega (arith, m)

      begun_clients : (ts : List Ticket) → AllByRecursion (IsBegun s.program next) ts → AllByRecursion (λ (t : Ticket). t.client < length s.program.clients) ts
      begun_clients [] all = tt
      begun_clients (t ∷ ts) all = (all.0.0, begun_clients ts all.1)

      counted_few : (k : ℕ) → length (filter (λ (t : Ticket). t.client == k) next.order) ≤ blocks_of s.program k
      counted_few k = omega (arith, then.tickets.counted k, then.tickets.begun k)

  longer : (h : ℕ) → is_in list h ≡ true → length (tickets_at s.handlers h) < all_blocks s.program
  longer h member =
      let few : length (before_it next h) ≤ all_blocks s.program = then.tickets.few h in
      let mine : is_in (code_at host.code host.client.begun).reserved h ≡ true =
      subst (λ n. is_in (code_at host.code n).reserved h ≡ true) (ap (λ (m : ClientModel). m.client.begun) (sym host_is)) (ap (λ rs. is_in rs h) list_is ∙ member) in
      let has : next.tickets h ≡ tickets_at s.handlers h ++ ticket c host.client.begun ∷ [] = rw mine refl in
      let all : length (serving (core_handler_of s.program s.handlers h) ++ (tickets_at s.handlers h ++ ticket c host.client.begun ∷ [])) ≤ all_blocks s.program =
      subst (λ ts. length (serving (core_handler_of s.program s.handlers h) ++ ts) ≤ all_blocks s.program) has few in
      omega (arith, all, length-append (serving (core_handler_of s.program s.handlers h)) (tickets_at s.handlers h ++ ticket c host.client.begun ∷ []), length-append (tickets_at s.handlers h) (ticket c host.client.begun ∷ []))

  pub can_enter_all : CanEnterAll now s.handlers list
  can_enter_all = can_enter now s.handlers list block_sound.distinct (members list (λ h. (h < length s.handlers) × (length (core_handler_at s.handlers h).tickets < (core_handler_at s.handlers h).room)) (λ h member.
      let less : h < length s.handlers = member_of list h member handlers_exist in
      (less, room_at h less member)))
    where
      room_at : (h : ℕ) → h < length s.handlers → is_in list h ≡ true → length (core_handler_at s.handlers h).tickets < (core_handler_at s.handlers h).room
      room_at h less member =
          let queue : tickets_at s.handlers h ≡ (core_handler_at s.handlers h).tickets = map_here (λ (x : CoreHandlerState). x.tickets) s.handlers h no_core_handler [] less in
          let roomy : all_blocks s.program ≤ (core_handler_at s.handlers h).room = AllByRecursion-get_or (λ (x : CoreHandlerState). all_blocks s.program ≤ x.room) s.handlers h no_core_handler kept.rooms less in
          omega (arith, longer h member, ap length queue, roomy)

  module _ (new : CoreClientState) (came : IsFormedOf (mind_after_begin own now) new) (lanes_stay : new.lanes ≡ old.lanes) where
    abbrev pub booked_after : CoreState
    booked_after = record { program = s.program; size = s.size; order = s.order ++ now ∷ []; clients = set s.clients c new; handlers = with_ticket_at_all now s.handlers list }

    place_is : own.client.stage ≡ between room.0
    place_is = subst (λ (m : ClientModel). m.client.stage ≡ between room.0) host_is room.1

    now_is : ticket c host.client.begun ≡ now
    now_is = ap (λ (m : ClientModel). ticket c m.client.begun) host_is

    new_is : whole_of new ≡ mind_after_begin_with own now room.0
    new_is = came.whole_is ∙ ap (λ (p : ClientStage). mind_after_begin_with own now (locals_at p)) place_is

    sides_then : put (client_part_at s.clients) c (record { mind = mind_after_begin_with host (ticket c host.client.begun) room.0; lanes = (client_part_at s.clients c).lanes }) ≡ client_part_at (set s.clients c new)
    sides_then =
        (λ i. put (client_part_at s.clients) c (record {
          mind = (ap (λ (m : ClientModel). mind_after_begin_with m (ticket c m.client.begun) room.0) host_is ∙ sym new_is) i;
          lanes = (ap (λ (x : ClientPart). x.lanes) here ∙ sym lanes_stay) i;
        }))
        ∙ sym (side_put s.clients c new inside)

    tickets_then : next.tickets ≡ tickets_at (with_ticket_at_all now s.handlers list)
    tickets_then = fun_ext (λ h.
        (λ i. if is_in (code_at host.code (host_is i).client.begun).reserved h then tickets_at s.handlers h ++ now_is i ∷ [] else tickets_at s.handlers h)
        ∙ (λ i. if is_in (list_is i) h then tickets_at s.handlers h ++ now ∷ [] else tickets_at s.handlers h)
        ∙ sym (tickets_entered now s.handlers list block_sound.distinct handlers_exist h))

    codes_then : codes_of booked_after ≡ codes_of s
    codes_then =
        ap (each (λ (x : ClientPart). x.mind.code)) (side_put s.clients c new inside)
        ∙ field_kept (λ (x : ClientPart). x.mind.code) (client_part_at s.clients) c (client_part new) (ap (λ (m : ClientModel). m.code) new_is ∙ sym (ap (λ (m : ClientModel). m.code) host_is))

    pub reserve_steps : CoreSteps s (actor.Client c) booked_after
    unfolding core_of
    reserve_steps = record {
      steps = stepped ∙ (λ i. Some (core_from (s.order ++ now_is i ∷ []) (sides_then i) (sym (handlers_entered now s.program s.handlers list handlers_exist) i) (tickets_then i)));
      program = refl;
      size = refl;
      codes = codes_then;
    }

    is_side : IsSide s.program s.size c (client_part old)
    is_side = subst (IsSide s.program s.size c) here (kept.sides c inside)

    new_side : IsSide s.program s.size c (client_part new)
    new_side = search (rules, new_is)

    pub reserve_kept : IsCoreState booked_after
    reserve_kept = record {
      clients = length-set s.clients c new ∙ kept.clients;
      handlers = length_entered now s.handlers list ∙ kept.handlers;
      sides = λ n less. subst (IsSide s.program s.size n) (λ i. sym (side_put s.clients c new inside) i n)
          (all_put (IsSide s.program s.size) (length s.clients) (client_part_at s.clients) c (client_part new) new_side kept.sides n (subst (λ m. n < m) (length-set s.clients c new) less));
      stocked = search (rules, all_set, new_is, kept);
      rooms = rooms_entered now (all_blocks s.program) s.handlers list handlers_exist kept.rooms;
      mode = kept.mode;
      codes = subst (AreCodes s.program kept.mode) (sym codes_then) kept.codes;
    }

-- a handler takes the first ticket of its queue
module _ (s : CoreState) (kept : IsCoreState s) (h : ℕ) (inside : h < length s.handlers) (old : CoreHandlerState) (here : core_handler_of s.program s.handlers h ≡ handler_with_act old)
    (queue : tickets_at s.handlers h ≡ old.tickets) (formed : IsCoreHandler old) (roomy : all_blocks s.program ≤ old.room) (asked : old.act ≡ acts.TakeTicket) where
  abbrev wants_ticket : act_of (core_handler_of s.program s.handlers h) ≡ acts.TakeTicket
  wants_ticket = ap act_of here ∙ sym formed.act ∙ asked

  pub ticket_rests : old.tickets ≡ [] → core_step (codes_of s) s.size (core_of s) (actor.Handler h) ≡ None
  unfolding core_of
  ticket_rests none = handlers.ticket_stays (codes_of s) s.size s.order (client_part_at s.clients) (core_handler_of s.program s.handlers) (tickets_at s.handlers) h wants_ticket (queue ∙ none)

  module _ (new : CoreHandlerState) (takes : TakesTicket old new) where
    abbrev pub taken_after : CoreState
    taken_after = record { program = s.program; size = s.size; order = s.order; clients = s.clients; handlers = set s.handlers h new }

    new_handler : handler_with_act new ≡ takes.2
    new_handler = ap handler_with_act takes.5 ∙ acts_lose_nothing takes.2

    pub ticket_steps : CoreSteps s (actor.Handler h) taken_after
    unfolding core_of
    ticket_steps = record {
      steps =
          handlers.ticket_steps (codes_of s) s.size s.order (client_part_at s.clients) (core_handler_of s.program s.handlers) (tickets_at s.handlers) h takes.0 takes.1 takes.2
          wants_ticket (queue ∙ takes.3) (ap (λ (x : Handler). accept_next x (nexts.Ticket takes.0)) here ∙ takes.4)
          ∙ (λ i. Some (core_from s.order (client_part_at s.clients) (handlers_then i) (tickets_then i)));
      program = refl;
      size = refl;
      codes = refl;
    }
      where
        handlers_then : put (core_handler_of s.program s.handlers) h takes.2 ≡ core_handler_of s.program (set s.handlers h new)
        handlers_then = ap (put (core_handler_of s.program s.handlers) h) (sym new_handler) ∙ sym (handler_put s.program s.handlers h new inside)

        tickets_then : put (tickets_at s.handlers) h takes.1 ≡ tickets_at (set s.handlers h new)
        tickets_then = ap (put (tickets_at s.handlers) h) (sym (ap (λ (x : CoreHandlerState). x.tickets) takes.5)) ∙ sym (tickets_put_at s.handlers h new inside)

    pub ticket_kept : IsCoreState taken_after
    ticket_kept = search (rules, kept, length-set, all_set, takes)
