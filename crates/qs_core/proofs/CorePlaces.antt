-- What is read of the code's clients and handlers is what the machine's state says: the tickets before a handler, the
-- lanes, and what a client wants next, which is at the lane to a handler of the program. The contracts of `handler` and
-- `client` promise it.
use Rattle.std.proofs.Common.{◌≡◌, ◌<◌, ℕ, length, Some, refl, ap, sym, ◌∙◌, arith}
use Rattle.qs_core_laws.proofs.Names.{act_due, Act}
use Rattle.qs_core_laws.specs.CoreReached.{ReachedCore}
use Rattle.qs_core.specs.parts.CoreClients.{CoreClientState, IsCoreClient, turns_to, whole_of}
use Rattle.qs_core.specs.parts.CoreHandlers.{CoreHandlerState, core_handler_at, handler_with_act}
use Rattle.qs_core.specs.state.CoreState.{CoreKeeps, CoreState, IsCoreState, codes_of, core_of, client_part_at}
use Rattle.qs_core.specs.CoreEffects.{AreLanesOf, act_at}
use Rattle.qs_core.proofs.CoreEffects.{act_is}
use Rattle.qs_core.proofs.shown.CoreReadings.{handler_is, tickets_are}

module _ (s : CoreState) (kept : IsCoreState s) where
  module _ (h : ℕ) (inside : h < length s.handlers) (d : CoreHandlerState) (formed : d ≡ core_handler_at s.handlers h) where
    pub mind_is : handler_with_act d ≡ (core_of s).handler h
    unfolding core_of
    mind_is = ap handler_with_act formed ∙ sym (handler_is s h inside)

    pub queue_is : d.tickets ≡ (core_of s).tickets h
    unfolding core_of
    queue_is = ap (λ (x : CoreHandlerState). x.tickets) formed ∙ sym (tickets_are s h inside)

  module _ (c : ℕ) (inside : c < length s.clients) where
    pub lanes_are : AreLanesOf (core_of s) c (client_part_at s.clients c).lanes
    unfolding core_of
    lanes_are = λ h. record { down = refl; up = refl; spare = refl }

    -- a client turns to the lane to a handler of the program
    turns_inside : CoreKeeps s → (a : Act) → act_at (codes_of s) s.size (core_of s) c ≡ a → (h : ℕ) → turns_to a ≡ Some h → h < length s.program.objects
    unfolding ReachedCore
    turns_inside keeps v e h turned = grind arith

    pub wanted_inside : CoreKeeps s → (h : ℕ) → turns_to (act_at (codes_of s) s.size (core_of s) c) ≡ Some h → h < length s.program.objects
    wanted_inside keeps = turns_inside keeps (act_at (codes_of s) s.size (core_of s) c) refl

    -- what a client wants next
    module _ (d : CoreClientState) (formed : IsCoreClient d) (mind : whole_of d ≡ (client_part_at s.clients c).mind) where
      pub wanted_is : d.act ≡ act_at (codes_of s) s.size (core_of s) c
      wanted_is = formed.act ∙ ap act_due mind ∙ sym (act_is s kept c inside)

      pub turned_is : CoreKeeps s → (h : ℕ) → turns_to d.act ≡ Some h → h < length s.program.objects
      turned_is keeps = turns_inside keeps d.act (sym wanted_is)
