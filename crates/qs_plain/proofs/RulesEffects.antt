-- What a step did is what the plain rules' definition says of it. The contracts of `go_on`, `separate` and
-- `step_handler_with_effect` promise this. A client's effect follows from what its frames ask. A handler's effect is
-- read before its step, but for a query's reply: that is read after the step, from the entry that the journal has more.
use Rattle.std.proofs.Common.{◌≡◌, ◌<◌, ℕ, ◌-◌, Bool, true, false, if◌then◌else◌, List, [], ◌∷◌, ◌++◌, map, length, drop, refl, ap, sym, subst, ◌∙◌, Option, Some, None, ℤ, get_or-set_same, length-set, rules}
use Rattle.qs_played.proofs.Names.{set, length-map, act, HeldState, has_room, run_one, with_entry, Entry, Ticket, Request, Interaction, ticket}
use Rattle.qs_played.specs.declared.schedule.actor.Actor.TheVariants as actor
use Rattle.qs_plain_laws.proofs.Names.{Client, Handler, Plain, Private, item_step, queue_step}
use Rattle.qs_plain_laws.specs.declared.item.QueueItem.{QueueItem}
use Rattle.qs_plain_laws.specs.audit.Plain as plain
use Rattle.qs_plain.proofs.Names.{ClientState, absent, client_state_at, client_of_state, stage_of, next_of, answered, effect_of_client, effect_of_queue, effect_of_queues, effect_of_rest, plain_effect, reply_in, reply_of, unanswered, handler_state_at, RulesState, Steps, plain_of, HandlerState, HasDone, IsShortStep, effect_of_did, last_ticket}
use Rattle.qs_plain.specs.declared.client.stage.Stage.TheVariants as stage
use Rattle.qs_plain.specs.declared.handler.effect.Effect.{Effect}
use Rattle.qs_plain.specs.declared.handler.effect.Effect.TheVariants as effect
use Rattle.qs_plain.specs.declared.did.Did.{Did}
use Rattle.qs_plain.proofs.RulesFieldLemmas.{new_rules}
use Rattle.qs_plain.proofs.RulesSteps.{plain_client, plain_handler}

-- a client in a block, by what its frames ask
pub effect_within : (r : RulesState) (c : ℕ) (rest : Interaction) → (client_state_at r.clients c).stage ≡ stage.Within → next_of (client_state_at r.clients c).frames (client_state_at r.clients c).locals ≡ rest
    → plain_effect (plain_of r) (actor.Client c) ≡ Some (effect_of_rest (ticket c (length (client_state_at r.clients c).entries - 1)) rest)
effect_within r c rest stays is =
    let d = client_state_at r.clients c in
    ap (λ (it : Client). effect_of_client c it it.stage) (plain_client r.clients c)
    ∙ ap (λ s. effect_of_client c (client_of_state d) (stage_of s d.frames d.locals)) stays
    ∙ ap (λ tree. Some (effect_of_rest (ticket c (length d.entries - 1)) tree)) is

-- and between two blocks
pub effect_out : (r : RulesState) (c : ℕ) → (client_state_at r.clients c).stage ≡ stage.Out
    → plain_effect (plain_of r) (actor.Client c) ≡ Some (effect.Reserves (ticket c (length (client_state_at r.clients c).entries)))
effect_out r c stays =
    let d = client_state_at r.clients c in
    ap (λ (it : Client). effect_of_client c it it.stage) (plain_client r.clients c)
    ∙ ap (λ s. effect_of_client c (client_of_state d) (stage_of s d.frames d.locals)) stays

-- the client that has moved
moved_here : (cs : List ClientState) (c n : ℕ) (new : ClientState) → n ≡ c → c < length cs → client_state_at (set cs n new) c ≡ new
moved_here cs c n new is less = ap (λ m. client_state_at (set cs m new) c) is ∙ get_or-set_same cs c new absent less

-- and what it did is read off it
pub effect_is_read : (it : Did) (before : Plain) (r : RulesState) (order : List Ticket) (c n : ℕ) (new : ClientState) (hs : List HandlerState) → n ≡ c → c < length r.clients → IsShortStep it
    → plain_effect before (actor.Client c) ≡ effect_of_did it new.locals (last_ticket c new) → HasDone it before c (new_rules r order n new hs)
effect_is_read it before r order c n new hs is less short effect = search (rules, it, length-set, moved_here)

-- the effect with its reply
answer : Option ℤ → Option Effect → Option Effect
answer reply None = None
answer reply (Some d) = Some (answered reply d)

past : (xs : List Entry) (e : Entry) → reply_of (drop (length xs) (xs ++ e ∷ [])) ≡ e.reply
past [] e = refl
past (x ∷ xs) e = past xs e

none_past : (xs : List Entry) → reply_of (drop (length xs) xs) ≡ None
none_past [] = refl
none_past (x ∷ xs) = none_past xs

-- what has run has its reply in the journal's next entry
replied : (x : HeldState) (t : Ticket) (r : Request) → reply_in (run_one x t r).0.journal (length x.journal) ≡ (run_one x t r).1
replied x t r = by_room (has_room x)
  where
    by_room : (b : Bool) → reply_in (if b then with_entry x t r (act x.object r.op r.args) else (x, None)).0.journal (length x.journal) ≡ (if b then with_entry x t r (act x.object r.op r.args) else (x, None)).1
    by_room true = past x.journal (record { ticket = t; request = r; reply = (act x.object r.op r.args).1 })
    by_room false = none_past x.journal

module _ (s t : Plain) (h : ℕ) (less : h < length s.handlers) where
  abbrev it : Handler
  it = plain.handler_at s.handlers h

  abbrev reply : Option ℤ
  reply = reply_in (plain.handler_at t.handlers h).held.journal (length it.held.journal)

  by_items : (q : Private) (qs : List Private) (items : List QueueItem) (first : Effect) → item_step s h it q qs items ≡ Some t → unanswered (effect_of_queue q.ticket it.held items) ≡ Some first
      → effect_of_queue q.ticket it.held items ≡ answer reply (Some first)
  unfolding answer
  by_items q qs v first e is = search (rules, answer, reply, plain.handler_at, get_or-set_same, replied)

  by_queues : (qs : List Private) (first : Effect) → queue_step s h it qs ≡ Some t → unanswered (effect_of_queues it.held qs) ≡ Some first → effect_of_queues it.held qs ≡ answer reply (Some first)
  by_queues v first e is = search (rules, by_items)

-- a handler's effect, read before its step but for the reply
pub effect_served : (r new : RulesState) (h : ℕ) (first : Effect) (value : Option ℤ) (before : ℕ) → h < length r.handlers → Steps r (actor.Handler h) new
    → Some first ≡ unanswered (effect_of_queues (handler_state_at r.handlers h).held (map (λ q. q.queue) (handler_state_at r.handlers h).queues))
    → before ≡ length (handler_state_at r.handlers h).held.journal → value ≡ reply_in (handler_state_at new.handlers h).held.journal before
    → plain_effect (plain_of r) (actor.Handler h) ≡ Some (answered value first)
unfolding answer
effect_served r new h first value before less steps is many replies =
    let here = plain_handler r.handlers h in
    let there = plain_handler new.handlers h in
    by_queues (plain_of r) (plain_of new) h (subst (λ n. h < n) (sym (length-map r.handlers _)) less) _ first steps.0
    (ap (λ (x : Handler). unanswered (effect_of_queues x.held x.queues)) here ∙ sym is)
    ∙ ap (λ v. Some (answered v first))
    (sym (replies ∙ (λ k. reply_in (sym there k).held.journal (many k)) ∙ (λ k. reply_in (plain.handler_at (plain_of new).handlers h).held.journal (length (sym here k).held.journal))))
