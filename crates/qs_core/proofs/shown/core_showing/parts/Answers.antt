-- Each turn of the loop brings the object of the next handler, whose number is how many have come before it.
use Rattle.std.proofs.Common.{◌≡◌, ◌<◌, ℕ, ◌+◌, ◌++◌, ◌∷◌, [], List, length, map, sym, ap, subst, ◌∙◌, arith, rules, zero-add, IsSome}
use Rattle.qs_played.proofs.Names.{range_with_len, YieldsList-from_vec, YieldsList-end, YieldsList-turn, length_push, map-range_with_len_more, HeldState, most_handlers}
use Rattle.qs_played.proofs.Lists.{get_or-any}
use Rattle.qs_core.specs.parts.CoreHandlers.{CoreHandlerState, core_handler_at, no_core_handler}
use Rattle.qs_core.specs.shown.CoreShown.{TurnsTo, core_held_at, held_with, object_with}
use Rattle.qs_core.proofs.shown.core_showing.parts.Goals.{After-len-number}
use Rattle.qs_core.proofs.shown.core_showing.parts.Goals as goal

-- the handler that comes is that of its number
record Next (all : List CoreHandlerState) (n m : ℕ) (s : CoreHandlerState) : Type 0 where
  pub number : m ≡ n
  pub inside : m < length all
  pub few : m < most_handlers
  pub here : s ≡ core_handler_at all m

next : (c : After-len-number) → Next c.args.handlers.items (length c.loop-handler.yielded) c.len-number.result c.in-Some.handler
next c =
    let all = c.args.handlers.items in
    let n = length c.loop-handler.yielded in
    let turn = YieldsList-turn (YieldsList-from_vec {s = c.into_iter-handler-iterator.result} all (search rules) (search rules))
    c.loop-handler.yielded c.loop-handler.handler-iterator c.loop-handler.yielded_by c.next.result c.next.new.self c.in-Some.handler c.in-Some.is c.next.ensures.steps in
    let number : c.len-number.result ≡ n = c.len-number.ensures ∙ c.loop-handler.invariant.many in
    let here : c.in-Some.handler ≡ core_handler_at all n = turn.1 ∙ get_or-any all n c.in-Some.handler no_core_handler turn.0 in
    let less : n < length all = turn.0 in
    record {
      number = number;
      inside = omega (arith, number, less);
      few = omega (arith, number, less, c.requires.few);
      here = here ∙ ap (core_handler_at all) (sym number);
    }

pub loop-handler-init : goal.loop-handler-init
loop-handler-init c = record { many = c.new-journals.ensures.len; journals = c.new-journals.ensures.items; states = c.new-states.ensures.items }

pub overflow_cast-number : goal.overflow_cast-number
overflow_cast-number c = let few = (next c).few in omega (arith, few)

pub brought-requires-clause-few : goal.brought-requires-clause-few
brought-requires-clause-few c = (next c).few

pub brought-requires-clause-lanes : goal.brought-requires-clause-lanes
brought-requires-clause-lanes c = c.requires.lanes c.len-number.result (next c).inside

pub brought-requires-clause-turns : goal.brought-requires-clause-turns
brought-requires-clause-turns c = subst (TurnsTo c.args.clients.now) (sym (next c).here) (c.requires.turns c.len-number.result (next c).inside)

pub brought-requires-clause-somewhere : goal.brought-requires-clause-somewhere
brought-requires-clause-somewhere c =
    subst (λ s. IsSome (object_with c.args.clients.now s c.len-number.result)) (sym (next c).here) (c.requires.somewhere c.len-number.result (next c).inside)

pub loop-handler-preserved : goal.loop-handler-preserved
loop-handler-preserved c =
    let cs = c.args.clients.now in
    let all = c.args.handlers.items in
    let yielded = c.loop-handler.yielded in
    let n = length yielded in
    let x = next (goal.at.loop-handler-preserved c).After-len-number in
    let held : ℕ → HeldState = core_held_at cs all in
    let longer : n + 1 ≡ length (yielded ++ c.in-Some.handler ∷ []) = let more = length_push yielded c.in-Some.handler in omega (arith, more) in
    let came = c.in_ok-brought.ensures.value ∙ (λ k. held_with cs (x.here k) c.len-number.result) ∙ ap held x.number in
    record {
      many = c.in_ok-push.ensures.len ∙ ap (λ k. k + 1) c.loop-handler.invariant.many ∙ longer;
      journals = c.in_ok-push.ensures.items
          ∙ (λ k. c.loop-handler.invariant.journals k ++ (c.into_parts-object.ensures.journal ∙ ap (λ (y : HeldState). y.journal) came) k ∷ [])
          ∙ sym (map-range_with_len_more (λ h. (held h).journal) 0 n n (zero-add n))
          ∙ ap (λ k. map (λ h. (held h).journal) (range_with_len 0 k)) longer;
      states = c.in_ok-push-2.ensures.items
          ∙ (λ k. c.loop-handler.invariant.states k ++ (c.into_parts-object.ensures.object ∙ ap (λ (y : HeldState). y.object) came) k ∷ [])
          ∙ sym (map-range_with_len_more (λ h. (held h).object) 0 n n (zero-add n))
          ∙ ap (λ k. map (λ h. (held h).object) (range_with_len 0 k)) longer;
    }

-- in the end all have come
ended : (c : goal.After-from_vec-2) → length c.loop-handler.yielded ≡ length c.args.handlers.items
ended c =
    (YieldsList-end (YieldsList-from_vec {s = c.into_iter-handler-iterator.result} c.args.handlers.items (search rules) (search rules))
    c.loop-handler.yielded c.loop-handler.handler-iterator c.loop-handler.yielded_by c.next.result c.next.new.self c.in-None.is c.next.ensures.steps).1

pub returns-clause-journals : goal.returns-clause-journals
returns-clause-journals c =
    c.from_vec.ensures.value ∙ c.loop-handler.invariant.journals
    ∙ ap (λ n. map (λ h. (core_held_at c.args.clients.now c.args.handlers.items h).journal) (range_with_len 0 n)) (ended c)

pub returns-clause-states : goal.returns-clause-states
returns-clause-states c =
    c.from_vec-2.ensures.value ∙ c.loop-handler.invariant.states
    ∙ ap (λ n. map (λ h. (core_held_at c.args.clients.now c.args.handlers.items h).object) (range_with_len 0 n)) (ended c)
