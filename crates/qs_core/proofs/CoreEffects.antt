-- What an actor does next, read off the code's clients and handlers, is what the definition says of the optimised
-- machine's state. The contracts of `next_effect` and `requests` promise it. A client's act and a handler's state are
-- those of the machine; an actor beyond the lists does nothing.
use Rattle.std.proofs.Common.{◌≡◌, ◌<◌, ◌≤◌, ℕ, List, [], length, None, ap, arith, rules}
use Rattle.qs_core_laws.proofs.Names.{Parcel, act_due}
use Rattle.qs_handler.specs.audit.Handler.{Handler, act_of}
use Rattle.qs_handler.specs.declared.mind.Act.TheVariants as acts
use Rattle.qs_played.specs.declared.schedule.actor.Actor.TheVariants as actor
use Rattle.qs_core_laws.specs.CoreReached.{ReachedCore}
use Rattle.qs_core.proofs.Names.{first_requests, sent_requests, core_handler_at, handler_with_act, lane_at}
use Rattle.qs_core.specs.state.CoreState.{CoreKeeps, CoreState, IsCoreState, codes_of, core_of, client_part_at}
use Rattle.qs_core.specs.CoreEffects.{act_at, core_effect, core_requests, effect_of_client, effect_of_handler, requests_of_handler}
use Rattle.qs_core.proofs.shown.CoreReadings.{handler_is, tickets_are}

-- a handler that takes a parcel takes the first one of its client's lane
pub requests_taken : (down : ℕ → List Parcel) (h : Handler) (c : ℕ) → act_of h ≡ acts.TakeParcel c → requests_of_handler down h ≡ first_requests (down c)
requests_taken down v c is = search rules

module _ (s : CoreState) (kept : IsCoreState s) where
  pub act_is : (c : ℕ) → c < length s.clients → act_at (codes_of s) s.size (core_of s) c ≡ act_due (client_part_at s.clients c).mind
  unfolding core_of
  act_is c inside = search (rules, kept)

  pub client_does : (c : ℕ) → c < length s.clients
      → core_effect (codes_of s) s.size (core_of s) (actor.Client c) ≡ effect_of_client c (client_part_at s.clients c).mind.client.begun (act_due (client_part_at s.clients c).mind)
  unfolding core_of
  client_does c inside = ap (effect_of_client c (client_part_at s.clients c).mind.client.begun) (act_is c inside)

  pub client_sends : (c : ℕ) → c < length s.clients → core_requests (codes_of s) s.size (core_of s) (actor.Client c) ≡ sent_requests (act_due (client_part_at s.clients c).mind)
  client_sends c inside = ap sent_requests (act_is c inside)

  pub handler_does : (h : ℕ) → h < length s.handlers
      → core_effect (codes_of s) s.size (core_of s) (actor.Handler h)
      ≡ effect_of_handler (core_handler_at s.handlers h).tickets (λ c. (lane_at (client_part_at s.clients c).lanes h).down) (handler_with_act (core_handler_at s.handlers h))
  unfolding core_of
  handler_does h inside = λ k. effect_of_handler (tickets_are s h inside k) (λ c. (lane_at (client_part_at s.clients c).lanes h).down) (handler_is s h inside k)

  pub handler_takes : (h : ℕ) → h < length s.handlers
      → core_requests (codes_of s) s.size (core_of s) (actor.Handler h)
      ≡ requests_of_handler (λ c. (lane_at (client_part_at s.clients c).lanes h).down) (handler_with_act (core_handler_at s.handlers h))
  unfolding core_of
  handler_takes h inside = λ k. requests_of_handler (λ c. (lane_at (client_part_at s.clients c).lanes h).down) (handler_is s h inside k)

  -- beyond the lists
  module _ (keeps : CoreKeeps s) where
    pub no_client_does : (c : ℕ) → length s.clients ≤ c → None ≡ core_effect (codes_of s) s.size (core_of s) (actor.Client c)
    unfolding ReachedCore
    no_client_does c out = grind (arith, keeps, kept)

    pub no_client_sends : (c : ℕ) → length s.clients ≤ c → [] ≡ core_requests (codes_of s) s.size (core_of s) (actor.Client c)
    unfolding ReachedCore
    no_client_sends c out = grind (arith, keeps, kept)

    pub no_handler_does : (h : ℕ) → length s.handlers ≤ h → None ≡ core_effect (codes_of s) s.size (core_of s) (actor.Handler h)
    unfolding ReachedCore
    no_handler_does h out = grind (arith, kept, keeps)

    pub no_handler_takes : (h : ℕ) → length s.handlers ≤ h → [] ≡ core_requests (codes_of s) s.size (core_of s) (actor.Handler h)
    unfolding ReachedCore
    no_handler_takes h out = grind (arith, kept, keeps)
