-- The lemmas on a handler's step are stated here in the words that the proofs of `meet` and `take_ticket` have at hand.
-- There the machine's fields, the numbers, the handler and the client are read out of the code and only equal to those
-- of the lemmas. The proofs rewrite along these equations, and look at both cases, that a step was made and that none
-- was.
use Rattle.std.proofs.Common.{◌≡◌, ◌<◌, ◌≤◌, ℕ, Bool, false, [], length, get_or, Option, Some, None, refl, sym, ap, subst, ◌∙◌, arith, rules}
use Rattle.qs_played.proofs.Names.{OnTrue, set, set-get_or, Request, AllByRecursion-get_or}
use Rattle.qs_core_laws.proofs.Names.{Batch, batch, core_step}
use Rattle.qs_handler.specs.audit.Handler.{Handler, act_of}
use Rattle.qs_handler.specs.declared.mind.Act.{Act}
use Rattle.qs_handler.specs.declared.mind.Act.TheVariants as acts
use Rattle.qs_played.specs.declared.schedule.actor.Actor.TheVariants as actor
use Rattle.qs_core_laws.specs.CoreReached.{ReachedCore}
use Rattle.qs_core.specs.parts.CoreClients.{AreStocked, CoreClientState, Meets, whole_of}
use Rattle.qs_core.proofs.Names.{CoreHandlerState, IsCoreHandler, MayCome, TakesTicket, handler_with_act, lane_step_of_handler, turns_to, lane_at}
use Rattle.qs_core.specs.state.CoreState.{CoreKeeps, CoreState, CoreSteps, IsCoreState, ClientPart, all_blocks, codes_of, core_of, core_handler_of, client_part_at, client_part, tickets_at}
use Rattle.qs_core.proofs.state.CoreBooking.{ticket_kept, ticket_rests, ticket_steps}
use Rattle.qs_core.proofs.state.CoreLists.{map_here}
use Rattle.qs_core.proofs.state.CoreMoves.{handler_kept, handler_rests, handler_steps, with_handlers}
use Rattle.qs_core.proofs.CoreFieldLemmas.{client_here}

module _ (r s : CoreState) (view : r ≡ s) (kept : IsCoreState r) (keeps : CoreKeeps s) (h n : ℕ) (number : n ≡ h) (less : h < length s.handlers)
    (d : CoreHandlerState) (value : d ≡ get_or r.handlers n d) (formed : IsCoreHandler d) where
  pub inside : h < length r.handlers
  inside = subst (λ (x : CoreState). h < length x.handlers) (sym view) less

  in_list : get_or r.handlers h d ≡ d
  in_list = sym (value ∙ ap (λ m. get_or r.handlers m d) number)

  pub formed_is : get_or s.handlers h d ≡ d
  formed_is = ap (λ (x : CoreState). get_or x.handlers h d) (sym view) ∙ in_list

  here : core_handler_of r.program r.handlers h ≡ handler_with_act d
  here = map_here handler_with_act r.handlers h d _ inside ∙ ap handler_with_act in_list

  queue : tickets_at r.handlers h ≡ d.tickets
  queue = map_here (λ (x : CoreHandlerState). x.tickets) r.handlers h d [] inside ∙ ap (λ (x : CoreHandlerState). x.tickets) in_list

  roomy : all_blocks r.program ≤ d.room
  roomy = subst (λ (x : CoreHandlerState). all_blocks r.program ≤ x.room) in_list (AllByRecursion-get_or (λ (x : CoreHandlerState). all_blocks r.program ≤ x.room) r.handlers h d kept.rooms inside)

  keeps_here : CoreKeeps r
  keeps_here = subst CoreKeeps (sym view) keeps

  -- its act is the machine's
  machine_act : act_of (core_handler_of r.program r.handlers h) ≡ d.act
  machine_act = ap act_of here ∙ sym formed.act

  -- where it turns to no lane it wants a ticket
  pub wants_ticket : turns_to d.act ≡ None → d.act ≡ acts.TakeTicket
  unfolding core_of ReachedCore
  wants_ticket none = search (rules, formed, here)

  -- after it took a ticket, or where there is none
  module _ (asked : d.act ≡ acts.TakeTicket) (new : CoreHandlerState) (b : Bool) (takes : OnTrue b (TakesTicket d new)) (none : b ≡ false → d.tickets ≡ []) (unchanged : b ≡ false → new ≡ d) where
    abbrev state_after_ticket : CoreState
    state_after_ticket = with_handlers r (set r.handlers n new)

    pub take_kept : IsCoreState state_after_ticket
    take_kept = search (rules, set, ticket_kept, inside, here, queue, roomy, set-get_or)

    pub take_steps : OnTrue b (CoreSteps s (actor.Handler h) state_after_ticket)
    take_steps = search (rules, set, ticket_steps, inside, here, queue, roomy)

    pub take_none : b ≡ false → core_step (codes_of s) s.size (core_of s) (actor.Handler h) ≡ None
    take_none e = subst (λ y. core_step (codes_of y) y.size (core_of y) (actor.Handler h) ≡ None) view (ticket_rests r kept h inside d here queue formed roomy asked (none e))

  -- it turns to the lane of client c
  module _ (c : ℕ) (turned : turns_to d.act ≡ Some c) where
    number_of : Option ℕ → ℕ
    number_of None = 0
    number_of (Some m) = m

    by_act : (a : Act) → d.act ≡ a → turns_to a ≡ Some c → c < length r.program.clients
    unfolding core_of ReachedCore number_of
    by_act v e t = search (rules, machine_act)

    pub there : c < length r.clients
    there = let in_program = by_act d.act refl turned in omega (arith, in_program, kept.clients)

    module _ (n' : ℕ) (number' : n' ≡ c) (g : CoreClientState) (value' : g ≡ get_or r.clients n' g) where
      found : client_part_at r.clients c ≡ client_part g
      found = client_here r.clients c n' g number' there value'

      stocked : AreStocked g
      stocked = subst AreStocked (sym (value' ∙ ap (λ m. get_or r.clients m g) number')) (AllByRecursion-get_or AreStocked r.clients c g kept.stocked there)

      pub lane_there : h < length g.lanes
      lane_there = grind (arith, found, kept, there, inside)

      pub may_come : MayCome d (lane_at g.lanes h)
      unfolding core_of ReachedCore number_of
      may_come c' p ps asked first = search (rules, found, here, machine_act)

      size_is : (whole_of g).size ≡ r.size
      size_is = ap (λ (x : ClientPart). x.mind.size) (sym found) ∙ (kept.sides c there).size

      spare_empty : (x : Handler) (k : Batch Request) → act_of x ≡ acts.Spare c k → k.items ≡ []
      spare_empty v k e = search rules

      fits : (k : Batch Request) → d.act ≡ acts.Spare c k → k ≡ batch [] (whole_of g).size
      unfolding core_of ReachedCore
      fits k e = search (rules, k, machine_act, spare_empty, formed, size_is)

      -- after a step at that lane, or without one
      module _ (later : CoreHandlerState) (new : CoreClientState) (b : Bool) (meets : OnTrue b (Meets h g d new later))
          (none : b ≡ false → lane_step_of_handler (handler_with_act d) d.act (lane_at g.lanes h) ≡ None) (same_formed : b ≡ false → new ≡ g) (same_handler : b ≡ false → later ≡ d) where
        abbrev state_after_visit : CoreState
        state_after_visit = record { program = r.program; size = r.size; order = r.order; clients = set r.clients n' new; handlers = set r.handlers n later }

        abbrev at_numbers : CoreClientState → CoreState
        at_numbers x = record { program = r.program; size = r.size; order = r.order; clients = set r.clients c x; handlers = set r.handlers h later }

        met_is : (x : CoreClientState) → new ≡ x → at_numbers x ≡ state_after_visit
        met_is x is = λ i. record { program = r.program; size = r.size; order = r.order; clients = set r.clients (sym number' i) (sym is i); handlers = set r.handlers (sym number i) later }

        pub meet_kept : IsCoreState state_after_visit
        meet_kept = search (rules, met_is, handler_kept, inside, here, queue, roomy, there, found, stocked, fits, set, set-get_or)

        pub meet_steps : OnTrue b (CoreSteps s (actor.Handler h) state_after_visit)
        meet_steps = search (rules, met_is, handler_steps, inside, here, queue, roomy, there, found, stocked, fits)

        pub meet_none : b ≡ false → core_step (codes_of s) s.size (core_of s) (actor.Handler h) ≡ None
        meet_none e = search (rules, handler_rests, inside, here, queue, roomy, there, found, stocked)
