-- After a client or a handler has made its step at a lane, the code's lists are the optimised machine after that step,
-- and what the code keeps still holds; where the lane allows no step, the machine has none. The code's calls that make
-- these steps promise it. The step is known for functions of numbers, and the lists with one member replaced are read
-- as these functions.
use Rattle.std.proofs.Common.{◌≡◌, ◌<◌, ◌≤◌, ℕ, ◌-◌, ◌==◌, Bool, true, false, if◌then◌else◌, List, [], length, Option, Some, None, refl, sym, ap, subst, ◌∙◌, arith, rules}
use Rattle.qs_played.proofs.Names.{AllByRecursion, set, length-set, Ticket, Request, AllByRecursion-get_or, put, ticket}
use Rattle.qs_core_laws.proofs.Names.{Batch, batch, acts_lose_nothing, ClientModel, act_due, IsMind, mind_of, Act, sends_are_parted, Core, client_step, core_step, AreCodes}
use Rattle.qs_handler.specs.audit.Handler.{Handler, act_of}
use Rattle.qs_handler.specs.declared.mind.Act.TheVariants as acts
use Rattle.qs_client.specs.declared.rules.act.Act.TheVariants as wants
use Rattle.qs_played.specs.declared.schedule.actor.Actor.TheVariants as actor
use Rattle.qs_core.specs.parts.CoreClients.{AreStocked, CoreClientState, HasLane, IsCoreClient, LaneStays, LaneSteps, lane_step_of_client, turns_to, whole_of}
use Rattle.qs_core.proofs.Names.{CoreHandlerState, IsCoreHandler, handler_with_act, IsStocked, LaneState, lane_at}
use Rattle.qs_core.proofs.parts.LaneStock.{handler_stocked}
use Rattle.qs_core.proofs.parts.CoreMinds.{KeepsMind, lane_begun, step_keeps, whole_mind}
use Rattle.qs_core.specs.parts.CoreHandlers as forms
use Rattle.qs_core.specs.state.CoreState.{CoreState, CoreSteps, IsCoreState, IsSide, ClientPart, all_blocks, codes_of, core_from, core_of, core_handler_of, client_part_at, client_part, tickets_at}
use Rattle.qs_core.proofs.state.CoreFields.{field_kept, each}
use Rattle.qs_core.proofs.state.CoreLists.{all_set, handler_put, side_put, tickets_keep}
use Rattle.qs_core.proofs.state.ClientFields as clients
use Rattle.qs_core.proofs.state.HandlerFields as handlers

-- with other clients, and with other handlers
abbrev pub with_clients : CoreState → List CoreClientState → CoreState
with_clients s cs = record { program = s.program; size = s.size; order = s.order; clients = cs; handlers = s.handlers }

abbrev pub with_handlers : CoreState → List CoreHandlerState → CoreState
with_handlers s hs = record { program = s.program; size = s.size; order = s.order; clients = s.clients; handlers = hs }

-- what is put at one place and holds there, and held elsewhere before
pub all_put : {A : Type 0} (P : ℕ → A → Type 0) (n : ℕ) (g : ℕ → A) (c : ℕ) (a : A) → P c a → ((m : ℕ) → m < n → P m (g m)) → (m : ℕ) → m < n → P m (put g c a m)
all_put P n g c a here others m less = by_test (c == m) refl
  where
    by_test : (b : Bool) → (c == m) ≡ b → P m (if b then a else g m)
    by_test true e = let same : c ≡ m = grind (arith, e) in subst (λ k. P k a) same here
    by_test false e = others m less

module _ (s : CoreState) (kept : IsCoreState s) (c : ℕ) (inside : c < length s.clients) (old : CoreClientState) (here : client_part_at s.clients c ≡ client_part old)
    (formed : IsCoreClient old) (stocked : AreStocked old) (ok : IsMind (mind_of old.mind)) (has_lane : HasLane old) (new : CoreClientState) (moves : LaneSteps old new) where
  abbrev own : ClientModel
  own = whole_of old

  abbrev pub after : CoreState
  after = with_clients s (set s.clients c new)

  own_ok : IsMind own
  own_ok = whole_mind old formed ok

  own_here : (client_part_at s.clients c).mind ≡ own
  own_here = ap (λ (x : ClientPart). x.mind) here

  same : KeepsMind own (whole_of new) (lane_at old.lanes moves.handler) moves.lane
  same = step_keeps own (whole_of new) old.act (lane_at old.lanes moves.handler) moves.lane moves.steps

  is_side : IsSide s.program s.size c (client_part old)
  is_side = subst (IsSide s.program s.size c) here (kept.sides c inside)

  some : 0 < own.client.begun
  some = lane_begun own moves.handler own_ok (ap turns_to (sym formed.act) ∙ moves.turned)

  own_ticket : own.ticket ≡ ticket c (own.client.begun - 1)
  own_ticket = grind (arith, some)

  owned : (client_part_at s.clients c).mind.ticket ≡ ticket c ((client_part_at s.clients c).mind.client.begun - 1)
  owned = subst (λ (x : ClientPart). x.mind.ticket ≡ ticket c (x.mind.client.begun - 1)) (sym here) own_ticket

  traced : (client_part_at s.clients c).mind.client.begun - 1 < length (client_part_at s.clients c).mind.traces
  traced = subst (λ (x : ClientPart). x.mind.client.begun - 1 < length x.mind.traces) (sym here) (omega (arith, own_ok.traces, own_ok.blocks, some))

  counted : (client_part_at s.clients c).mind.client.begun - 1 < length (client_part_at s.clients c).mind.counts
  counted = subst (λ (x : ClientPart). x.mind.client.begun - 1 < length x.mind.counts) (sym here) (omega (arith, own_ok.counts, own_ok.blocks, some))

  lane_here : moves.handler < length (client_part_at s.clients c).lanes
  lane_here = subst (λ (x : ClientPart). moves.handler < length x.lanes) (sym here) (has_lane moves.handler moves.turned)

  abbrev sides : ℕ → ClientPart
  sides = client_part_at s.clients

  abbrev result_of : Option (ClientModel × LaneState) → Option Core
  result_of = clients.result_of s.order sides (core_handler_of s.program s.handlers) (tickets_at s.handlers) c owned traced counted moves.handler lane_here

  stepped : core_step (codes_of s) (sides c).mind.size (core_from s.order sides (core_handler_of s.program s.handlers) (tickets_at s.handlers)) (actor.Client c)
      ≡ result_of (lane_step_of_client (sides c).mind old.act (lane_at (sides c).lanes moves.handler))
  stepped =
      clients.at_lane s.order sides (core_handler_of s.program s.handlers) (tickets_at s.handlers) c owned traced counted moves.handler lane_here sends_are_parted old.act
      (ap act_due own_here ∙ sym formed.act) moves.turned

  sides_are : put sides c (record { mind = whole_of new; lanes = set (sides c).lanes moves.handler moves.lane }) ≡ client_part_at (set s.clients c new)
  sides_are =
      (λ k. put sides c (record { mind = whole_of new; lanes = (ap (λ (x : ClientPart). set x.lanes moves.handler moves.lane) here ∙ sym moves.lanes) k }))
      ∙ sym (side_put s.clients c new inside)

  pub codes_are : codes_of after ≡ codes_of s
  codes_are =
      ap (each (λ (x : ClientPart). x.mind.code)) (side_put s.clients c new inside)
      ∙ field_kept (λ (x : ClientPart). x.mind.code) sides c (client_part new) (same.code ∙ sym (ap (λ (x : ClientPart). x.mind.code) here))

  pub client_steps : CoreSteps s (actor.Client c) after
  unfolding core_of
  client_steps = search (rules, after, kept, stepped, moves, sides_are, codes_are)

  new_side : IsSide s.program s.size c (client_part new)
  new_side = record {
    lanes = ap length moves.lanes ∙ length-set old.lanes moves.handler moves.lane ∙ is_side.lanes;
    size = same.size ∙ is_side.size;
    owner = λ less. ap (λ (t : Ticket). t.client) same.ticket ∙ is_side.owner some;
  }

  pub client_kept : IsCoreState after
  client_kept = record {
    clients = length-set s.clients c new ∙ kept.clients;
    handlers = kept.handlers;
    sides = λ n less. subst (IsSide s.program s.size n) (λ k. sym (side_put s.clients c new inside) k n)
        (all_put (IsSide s.program s.size) (length s.clients) sides c (client_part new) new_side kept.sides n (subst (λ m. n < m) (length-set s.clients c new) less));
    stocked = all_set AreStocked s.clients c new
        (subst (λ n. AllByRecursion (IsStocked n) new.lanes) (sym same.size)
        (subst (AllByRecursion (IsStocked own.size)) (sym moves.lanes)
        (all_set (IsStocked own.size) old.lanes moves.handler moves.lane (same.stocked own.size (AllByRecursion-get_or (IsStocked own.size) old.lanes moves.handler _ stocked (has_lane moves.handler moves.turned))) stocked)))
        kept.stocked;
    rooms = kept.rooms;
    mode = kept.mode;
    codes = subst (AreCodes s.program kept.mode) (sym codes_are) kept.codes;
  }

-- where a client can't step at a lane, and does not reserve, it has no step
module _ (s : CoreState) (kept : IsCoreState s) (c : ℕ) (inside : c < length s.clients) (old : CoreClientState) (here : client_part_at s.clients c ≡ client_part old)
    (formed : IsCoreClient old) (ok : IsMind (mind_of old.mind)) (has_lane : HasLane old) (stays : LaneStays old) where
  abbrev at_rest : Type 0
  at_rest = core_step (codes_of s) s.size (core_of s) (actor.Client c) ≡ None

  asked : act_due (client_part_at s.clients c).mind ≡ old.act
  asked = ap (λ (x : ClientPart). act_due x.mind) here ∙ sym formed.act

  size_is : (client_part_at s.clients c).mind.size ≡ s.size
  size_is = (kept.sides c inside).size

  ends : old.act ≡ wants.Finished → at_rest
  unfolding core_of
  ends is =
      subst (λ n. core_step (codes_of s) n (core_of s) (actor.Client c) ≡ None) size_is
      (ap (client_step (codes_of s) (client_part_at s.clients c).mind.size (core_from s.order (client_part_at s.clients) (core_handler_of s.program s.handlers) (tickets_at s.handlers)) c) (asked ∙ is))

  waits : (h : ℕ) → turns_to old.act ≡ Some h → at_rest
  unfolding core_of
  waits h turned =
      let ok' = whole_mind old formed ok in
      let some : 0 < (whole_of old).client.begun = lane_begun (whole_of old) h ok' (ap turns_to (sym formed.act) ∙ turned) in
      let index : (whole_of old).ticket.index ≡ (whole_of old).client.begun - 1 = omega (arith, ok'.ticket some) in
      let owner : (whole_of old).ticket.client ≡ c = subst (λ (x : ClientPart). 0 < x.mind.client.begun → x.mind.ticket.client ≡ c) here (kept.sides c inside).owner some in
      let owned : (client_part_at s.clients c).mind.ticket ≡ ticket c ((client_part_at s.clients c).mind.client.begun - 1) =
      subst (λ (x : ClientPart). x.mind.ticket ≡ ticket c (x.mind.client.begun - 1)) (sym here) (λ k. record { client = owner k; index = index k }) in
      let traced : (client_part_at s.clients c).mind.client.begun - 1 < length (client_part_at s.clients c).mind.traces =
      subst (λ (x : ClientPart). x.mind.client.begun - 1 < length x.mind.traces) (sym here) (omega (arith, ok'.traces, ok'.blocks, some)) in
      let counted : (client_part_at s.clients c).mind.client.begun - 1 < length (client_part_at s.clients c).mind.counts =
      subst (λ (x : ClientPart). x.mind.client.begun - 1 < length x.mind.counts) (sym here) (omega (arith, ok'.counts, ok'.blocks, some)) in
      let lane_here : h < length (client_part_at s.clients c).lanes = subst (λ (x : ClientPart). h < length x.lanes) (sym here) (has_lane h turned) in
      let result = clients.result_of s.order (client_part_at s.clients) (core_handler_of s.program s.handlers) (tickets_at s.handlers) c owned traced counted h lane_here in
      subst (λ n. core_step (codes_of s) n (core_of s) (actor.Client c) ≡ None) size_is
      (clients.at_lane s.order (client_part_at s.clients) (core_handler_of s.program s.handlers) (tickets_at s.handlers) c owned traced counted h lane_here sends_are_parted old.act asked turned
      ∙ ap (λ (x : ClientPart). result (lane_step_of_client x.mind old.act (lane_at x.lanes h))) here
      ∙ ap result (stays h turned))

  pub client_rests : (old.act ≡ wants.Reserve → ⊥) → at_rest
  client_rests other = by_act old.act refl
    where
      by_act : (a : Act) → old.act ≡ a → at_rest
      by_act wants.Reserve e = absurd (other e)
      by_act (wants.Send h p) e = waits h (ap turns_to e)
      by_act (wants.Await h) e = waits h (ap turns_to e)
      by_act (wants.NeedChunk h) e = waits h (ap turns_to e)
      by_act wants.Finished e = ends e

-- a handler's step at the lane of client c, whose part is `guest`
module _ (s : CoreState) (kept : IsCoreState s) (h : ℕ) (inside : h < length s.handlers) (old : CoreHandlerState) (here : core_handler_of s.program s.handlers h ≡ handler_with_act old)
    (queue : tickets_at s.handlers h ≡ old.tickets) (formed : IsCoreHandler old) (roomy : all_blocks s.program ≤ old.room)
    (c : ℕ) (turned : forms.turns_to old.act ≡ Some c) (there : c < length s.clients) (guest : CoreClientState) (found : client_part_at s.clients c ≡ client_part guest) (stocked : AreStocked guest) where
  lane_of_guest : h < length (client_part_at s.clients c).lanes
  lane_of_guest = let lanes = (kept.sides c there).lanes in omega (arith, inside, lanes, kept.handlers)

  abbrev handler_result : Option (Handler × LaneState) → Option Core
  handler_result = handlers.result_of (codes_of s) s.size s.order (client_part_at s.clients) (core_handler_of s.program s.handlers) (tickets_at s.handlers) h c lane_of_guest

  met : core_step (codes_of s) s.size (core_of s) (actor.Handler h) ≡ handler_result (forms.lane_step_of_handler (handler_with_act old) old.act (lane_at guest.lanes h))
  unfolding core_of
  met =
      handlers.at_lane (codes_of s) s.size s.order (client_part_at s.clients) (core_handler_of s.program s.handlers) (tickets_at s.handlers) h c lane_of_guest old.act
      (ap act_of here ∙ sym formed.act) turned
      ∙ (λ k. handler_result (forms.lane_step_of_handler (here k) old.act (lane_at (found k).lanes h)))

  pub handler_rests : forms.lane_step_of_handler (handler_with_act old) old.act (lane_at guest.lanes h) ≡ None → core_step (codes_of s) s.size (core_of s) (actor.Handler h) ≡ None
  handler_rests none = met ∙ ap handler_result none

  module _ (fits : (b : Batch Request) → old.act ≡ acts.Spare c b → b ≡ batch [] (whole_of guest).size) (new : CoreHandlerState) (k : LaneState)
      (moves : forms.LaneSteps old (lane_at guest.lanes h) new k) where
    abbrev next : Handler
    next = moves.0

    -- the client's part with the lane as it is then
    abbrev pub client_after_visit : CoreClientState
    client_after_visit = record { mind = guest.mind; act = guest.act; lanes = set guest.lanes h k }

    abbrev pub met_after : CoreState
    met_after = record { program = s.program; size = s.size; order = s.order; clients = set s.clients c client_after_visit; handlers = set s.handlers h new }

    next_is : handler_with_act new ≡ next
    next_is = ap handler_with_act moves.2 ∙ acts_lose_nothing next

    same_mind : whole_of client_after_visit ≡ whole_of guest
    unfolding whole_of
    same_mind = refl

    sides_then : put (client_part_at s.clients) c (record { mind = (client_part_at s.clients c).mind; lanes = set (client_part_at s.clients c).lanes h k }) ≡ client_part_at (set s.clients c client_after_visit)
    sides_then =
        (λ i. put (client_part_at s.clients) c (record { mind = (ap (λ (x : ClientPart). x.mind) found ∙ sym same_mind) i; lanes = ap (λ (x : ClientPart). set x.lanes h k) found i }))
        ∙ sym (side_put s.clients c client_after_visit there)

    codes_then : codes_of met_after ≡ codes_of s
    codes_then =
        ap (each (λ (x : ClientPart). x.mind.code)) (side_put s.clients c client_after_visit there)
        ∙ field_kept (λ (x : ClientPart). x.mind.code) (client_part_at s.clients) c (client_part client_after_visit) (ap (λ (m : ClientModel). m.code) (same_mind ∙ sym (ap (λ (x : ClientPart). x.mind) found)))

    pub handler_steps : CoreSteps s (actor.Handler h) met_after
    unfolding core_of
    handler_steps = record {
      steps =
          met
          ∙ ap handler_result moves.1
          ∙ (λ i. Some (core_from s.order (sides_then i) (handlers_then i) (tickets_then i)));
      program = refl;
      size = refl;
      codes = codes_then;
    }
      where
        handlers_then : put (core_handler_of s.program s.handlers) h next ≡ core_handler_of s.program (set s.handlers h new)
        handlers_then = ap (put (core_handler_of s.program s.handlers) h) (sym next_is) ∙ sym (handler_put s.program s.handlers h new inside)

        tickets_then : tickets_at s.handlers ≡ tickets_at (set s.handlers h new)
        tickets_then = sym (tickets_keep s.handlers h new inside (ap (λ (x : CoreHandlerState). x.tickets) moves.2 ∙ sym queue))

    visited_side : IsSide s.program s.size c (client_part client_after_visit)
    visited_side = search (rules, length-set, same_mind)

    lane_stocked : IsStocked (whole_of guest).size k
    lane_stocked =
        handler_stocked (handler_with_act old) next old.act c (lane_at guest.lanes h) k (whole_of guest).size turned moves.1 fits
        (AllByRecursion-get_or (IsStocked (whole_of guest).size) guest.lanes h _ stocked (subst (λ (x : ClientPart). h < length x.lanes) found lane_of_guest))

    pub handler_kept : IsCoreState met_after
    handler_kept = record {
      clients = length-set s.clients c client_after_visit ∙ kept.clients;
      handlers = length-set s.handlers h new ∙ kept.handlers;
      sides = λ n less. subst (IsSide s.program s.size n) (λ i. sym (side_put s.clients c client_after_visit there) i n)
          (all_put (IsSide s.program s.size) (length s.clients) (client_part_at s.clients) c (client_part client_after_visit) visited_side kept.sides n (subst (λ m. n < m) (length-set s.clients c client_after_visit) less));
      stocked = search (rules, all_set, same_mind, lane_stocked, kept);
      rooms = all_set (λ (x : CoreHandlerState). all_blocks s.program ≤ x.room) s.handlers h new (subst (λ (x : CoreHandlerState). all_blocks s.program ≤ x.room) (sym moves.2) roomy) kept.rooms;
      mode = kept.mode;
      codes = subst (AreCodes s.program kept.mode) (sym codes_then) kept.codes;
    }
