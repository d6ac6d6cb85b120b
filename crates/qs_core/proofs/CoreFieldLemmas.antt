-- The lemmas on a client's step are stated here in the words that the proofs of `reserve` and `go_on` have at hand.
-- There the machine's fields, the client's number and the client itself are read out of the code and only equal to
-- those of the lemmas. The proofs rewrite along these equations, and look at both cases, that a step was made and that
-- none was.
use Rattle.std.proofs.Common.{◌≡◌, ◌<◌, ℕ, Bool, false, List, [], ◌∷◌, ◌++◌, length, get_or, Option, Some, None, refl, sym, ap, subst, ◌∙◌, arith, rules}
use Rattle.qs_played.proofs.Names.{OnTrue, set, set-get_or, Ticket, AllByRecursion-get_or, block_at, blocks_of, IsSound, ticket}
use Rattle.qs_core_laws.proofs.Names.{act_of as client_act, mind_after_begin, IsMind, mind_of, Act, get_or-any, core_step, settings_of, blocks_in}
use Rattle.qs_client.specs.declared.rules.act.Act.TheVariants as wants
use Rattle.qs_played.specs.declared.schedule.actor.Actor.TheVariants as actor
use Rattle.qs_core_laws.specs.CoreReached.{ReachedCore}
use Rattle.qs_core.specs.parts.CoreClients.{AreStocked, CoreClientState, HasLane, IsCoreClient, LaneStays, LaneSteps, turns_to, whole_of}
use Rattle.qs_core.specs.parts.CoreHandlers.{CanEnterAll, CoreHandlerState, with_ticket_at_all}
use Rattle.qs_core.proofs.parts.ClientModels.{IsFormedOf}
use Rattle.qs_core.specs.state.CoreState.{CoreKeeps, CoreState, CoreSteps, StepsAreReached, IsCoreState, ClientPart, all_blocks, codes_of, core_of, no_client_part, client_part_at, client_part}
use Rattle.qs_core.proofs.state.CoreLists.{map_here}
use Rattle.qs_core.proofs.state.CoreMoves.{client_kept, client_rests, client_steps, with_clients}
use Rattle.qs_core.proofs.state.CoreBooking as booking

pub client_here : (cs : List CoreClientState) (c n : ℕ) (d : CoreClientState) → n ≡ c → c < length cs → d ≡ get_or cs n d → client_part_at cs c ≡ client_part d
client_here cs c n d number less value = map_here client_part cs c d no_client_part less ∙ ap client_part (sym (value ∙ ap (λ m. get_or cs m d) number))

module _ (r s : CoreState) (view : r ≡ s) (kept : IsCoreState r) (keeps : CoreKeeps s) (c n : ℕ) (number : n ≡ c) (less : c < length s.clients)
    (d : CoreClientState) (value : d ≡ get_or r.clients n d) (formed : IsCoreClient d) (ok : IsMind (mind_of d.mind)) where
  inside : c < length r.clients
  inside = subst (λ (x : CoreState). c < length x.clients) (sym view) less

  here : client_part_at r.clients c ≡ client_part d
  here = client_here r.clients c n d number inside value

  pub stocked : AreStocked d
  stocked = subst AreStocked (sym (value ∙ ap (λ m. get_or r.clients m d) number)) (AllByRecursion-get_or AreStocked r.clients c d kept.stocked inside)

  keeps_here : CoreKeeps r
  keeps_here = subst CoreKeeps (sym view) keeps

  machine_act : client_act (settings_of (codes_of r) r.size c) (blocks_in (codes_of r) c) ((core_of r).client c) ≡ d.act
  unfolding core_of
  machine_act = search (rules, kept, inside, here, formed)

  lanes_are : length d.lanes ≡ length r.program.objects
  lanes_are = ap (λ (x : ClientPart). length x.lanes) (sym here) ∙ (kept.sides c inside).lanes

  number_of : Option ℕ → ℕ
  number_of None = 0
  number_of (Some m) = m

  by_act : (a : Act) → d.act ≡ a → (h : ℕ) → turns_to a ≡ Some h → h < length r.program.objects
  unfolding ReachedCore number_of
  by_act v e h turned = search (rules, machine_act)

  pub has_lane : HasLane d
  has_lane h turned = let in_program = by_act d.act refl h turned in omega (arith, in_program, lanes_are)

  -- after a step at a lane, or without one
  module _ (new : CoreClientState) (b : Bool) (steps : OnTrue b (LaneSteps d new)) (stays : b ≡ false → LaneStays d) (unchanged : b ≡ false → new ≡ d) where
    abbrev after : CoreState
    after = with_clients r (set r.clients n new)

    at_number : (P : CoreState → Type 0) → P (with_clients r (set r.clients c new)) → P after
    at_number P h = subst (λ m. P (with_clients r (set r.clients m new))) (sym number) h

    pub go_kept : IsCoreState after
    go_kept = search (rules, after, at_number, client_kept, inside, here, stocked, has_lane, set, set-get_or)

    pub go_steps : OnTrue b (CoreSteps s (actor.Client c) after)
    go_steps = search (rules, after, at_number, client_steps, inside, here, stocked, has_lane)

    pub go_none : (d.act ≡ wants.Reserve → ⊥) → b ≡ false → core_step (codes_of s) s.size (core_of s) (actor.Client c) ≡ None
    go_none other e = subst (λ y. core_step (codes_of y) y.size (core_of y) (actor.Client c) ≡ None) view (client_rests r kept c inside d here formed ok has_lane (stays e) other)

  -- the part is the one in the list
  pub formed_is : get_or s.clients c d ≡ d
  formed_is = ap (λ (x : CoreState). get_or x.clients c d) (sym view) ∙ sym (value ∙ ap (λ m. get_or r.clients m d) number)

  -- where it reserves its next block
  module _ (sound : IsSound r.program) (on : StepsAreReached s) (asked : d.act ≡ wants.Reserve) where
    on_here : StepsAreReached r
    on_here = subst StepsAreReached (sym view) on

    pub order_roomy : length r.order < all_blocks r.program
    order_roomy = booking.order_room r kept sound keeps_here on_here c inside d here formed stocked ok asked

    pub in_blocks : (whole_of d).client.begun < blocks_of r.program c
    in_blocks = booking.in_blocks r kept sound keeps_here on_here c inside d here formed stocked ok asked

    abbrev pub list : List ℕ
    list = (block_at r.program c (whole_of d).client.begun).reserved

    abbrev pub now : Ticket
    now = ticket c (whole_of d).client.begun

    pub enters : CanEnterAll now r.handlers list
    enters = booking.can_enter_all r kept sound keeps_here on_here c inside d here formed stocked ok asked

    -- once it did
    module _ (new : CoreClientState) (booked : whole_of new ≡ mind_after_begin (whole_of d) now) (are_formed : IsCoreClient new) (lanes : new.lanes ≡ d.lanes) where
      came : IsFormedOf (mind_after_begin (whole_of d) now) new
      came = record { whole_is = booked; formed = are_formed }

      abbrev pub booked_state : CoreState
      booked_state = record { program = r.program; size = r.size; order = r.order ++ now ∷ []; clients = set r.clients c new; handlers = with_ticket_at_all now r.handlers list }

      pub booked_kept : IsCoreState booked_state
      booked_kept = booking.reserve_kept r kept sound keeps_here on_here c inside d here formed stocked ok asked new came lanes

      pub booked_steps : CoreSteps s (actor.Client c) booked_state
      booked_steps = subst (λ y. CoreSteps y (actor.Client c) booked_state) view (booking.reserve_steps r kept sound keeps_here on_here c inside d here formed stocked ok asked new came lanes)

    -- as the code says it
    module _ (n' : ℕ) (number' : n' ≡ c) (d' : CoreClientState) (value' : d' ≡ get_or r.clients n' d') (u : Ticket) (u_is : u ≡ now) (xs : List ℕ) (xs_are : xs ≡ list)
        (new : CoreClientState) (booked : whole_of new ≡ mind_after_begin (whole_of d') u) (are_formed : IsCoreClient new) (lanes : new.lanes ≡ d'.lanes)
        (order : List Ticket) (longer : order ≡ r.order ++ u ∷ []) (hs : List CoreHandlerState) (entered : hs ≡ with_ticket_at_all u r.handlers xs) where
      same_formed : d' ≡ d
      same_formed = value' ∙ ap (λ m. get_or r.clients m d') number' ∙ get_or-any r.clients c d' d inside ∙ sym (value ∙ ap (λ m. get_or r.clients m d) number)

      booked_here : whole_of new ≡ mind_after_begin (whole_of d) now
      booked_here = booked ∙ (λ k. mind_after_begin (whole_of (same_formed k)) (u_is k))

      lanes_here : new.lanes ≡ d.lanes
      lanes_here = lanes ∙ ap (λ (x : CoreClientState). x.lanes) same_formed

      abbrev pub new_state : CoreState
      new_state = record { program = r.program; size = r.size; order = order; clients = set r.clients n' new; handlers = hs }

      made_is : booked_state new booked_here are_formed lanes_here ≡ new_state
      made_is = search (rules, set)

      pub made_kept : IsCoreState new_state
      made_kept = subst IsCoreState made_is (booked_kept new booked_here are_formed lanes_here)

      pub made_steps : CoreSteps s (actor.Client c) new_state
      made_steps = subst (CoreSteps s (actor.Client c)) made_is (booked_steps new booked_here are_formed lanes_here)
