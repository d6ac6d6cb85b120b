-- The lemmas on the steps of the plain rules are stated here in the words that the proofs of `separate`, `go_on`,
-- `step_client` and `step_handler` have at hand. There the machine's fields, the numbers, and the client or handler are
-- read out of the code and only equal to those of the lemmas. The proofs rewrite along these equations.
use Rattle.std.proofs.Common.{◌≡◌, ◌<◌, ℕ, List, [], ◌∷◌, ◌++◌, Some, length, get_or, ap, ◌∙◌, sym, subst, rules}
use Rattle.qs_played.proofs.Names.{set, Ticket, ticket}
use Rattle.qs_played.specs.declared.schedule.actor.Actor.{Actor}
use Rattle.qs_plain_laws.proofs.Names.{get_or-any, step}
use Rattle.qs_plain_laws.specs.declared.item.QueueItem.{QueueItem}
use Rattle.qs_plain.proofs.Names.{ClientState, absent, client_state_at, Stage, CanLogAll, logged_all, handler_state_at, nobody, RulesState, IsRules, plain_of, HandlerState}

pub within_of : (r s : RulesState) (c : ℕ) → r ≡ s → c < length s.clients → c < length r.clients
within_of r s c same less = rw same less

pub stage_of : (r s : RulesState) (c : ℕ) (st : Stage) → r ≡ s → (client_state_at s.clients c).stage ≡ st → (client_state_at r.clients c).stage ≡ st
stage_of r s c st same is = rw same is

pub here_of : (cs : List ClientState) (c n : ℕ) (d : ClientState) → n ≡ c → c < length cs → d ≡ get_or cs n d → d ≡ client_state_at cs c
here_of cs c n d is less e = e ∙ ap (λ m. get_or cs m d) is ∙ get_or-any cs c d absent less

abbrev pub new_rules : RulesState → List Ticket → ℕ → ClientState → List HandlerState → RulesState
new_rules r order c new hs = record { program = r.program; order = order; clients = set r.clients c new; handlers = hs }

pub made_kept : (r : RulesState) (order : List Ticket) (c n : ℕ) (new : ClientState) (hs others : List HandlerState) → n ≡ c → others ≡ hs → IsRules (new_rules r order c new hs) → IsRules (new_rules r order n new others)
made_kept r order c n new hs others is same kept = subst (λ m. IsRules (new_rules r order m new others)) (sym is) (subst (λ xs. IsRules (new_rules r order c new xs)) (sym same) kept)

pub made_steps : (r s : RulesState) (a : Actor) (order later : List Ticket) (c n : ℕ) (new : ClientState) (hs others : List HandlerState) → r ≡ s → n ≡ c → others ≡ hs → order ≡ later
    → step r.program (plain_of r) a ≡ Some (plain_of (new_rules r order c new hs)) → step s.program (plain_of s) a ≡ Some (plain_of (new_rules r later n new others))
made_steps r s a order later c n new hs others same is v longer e = search rules

pub longer_order : (order later : List Ticket) (c k n m : ℕ) → later ≡ order ++ record { client = c; index = n } ∷ [] → n ≡ m → m ≡ k → order ++ ticket c k ∷ [] ≡ later
longer_order order later c k n m e is same = sym (e ∙ ap (λ j. order ++ ticket c j ∷ []) (is ∙ same))

pub can_log_all_of : (t u : Ticket) (hs : List HandlerState) (xs ys : List ℕ) → t ≡ u → xs ≡ ys → CanLogAll u hs ys → CanLogAll t hs xs
can_log_all_of t u hs xs ys same is can = subst (λ v. CanLogAll v hs xs) (sym same) (subst (CanLogAll u hs) (sym is) can)

pub logged_all_of : (t u : Ticket) (i : QueueItem) (hs others : List HandlerState) (xs ys : List ℕ) → t ≡ u → xs ≡ ys → others ≡ logged_all t i hs xs → others ≡ logged_all u i hs ys
logged_all_of t u i hs others xs ys same is e = e ∙ (λ k. logged_all (same k) i hs (is k))

pub handler_here : (hs : List HandlerState) (h n : ℕ) (x : HandlerState) → n ≡ h → h < length hs → x ≡ get_or hs n x → x ≡ handler_state_at hs h
handler_here hs h n x is less e = e ∙ ap (λ m. get_or hs m x) is ∙ get_or-any hs h x nobody less

pub handlers_within : (r s : RulesState) (h : ℕ) → r ≡ s → h < length s.handlers → h < length r.handlers
handlers_within r s h same less = rw same less

abbrev pub rules_after_serving : RulesState → List ClientState → ℕ → HandlerState → RulesState
rules_after_serving r cs h new = record { program = r.program; order = r.order; clients = cs; handlers = set r.handlers h new }

pub served_at : (r : RulesState) (cs : List ClientState) (h n : ℕ) (new : HandlerState) → n ≡ h → IsRules (rules_after_serving r cs h new) → IsRules (rules_after_serving r cs n new)
served_at r cs h n new is kept = subst (λ m. IsRules (rules_after_serving r cs m new)) (sym is) kept

pub served_steps : (r s : RulesState) (a : Actor) (cs : List ClientState) (h n : ℕ) (new : HandlerState) → r ≡ s → n ≡ h → step r.program (plain_of r) a ≡ Some (plain_of (rules_after_serving r cs h new))
    → step s.program (plain_of s) a ≡ Some (plain_of (rules_after_serving r cs n new))
served_steps r s a cs h n new same is e = search rules
