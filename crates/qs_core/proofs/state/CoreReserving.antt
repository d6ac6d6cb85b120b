-- A client's reservation is a step of the optimised machine: the order and the queue of each handler of the block's
-- list have one ticket more, and the client stands at its block's beginning. The lemma that says so of the code's lists
-- stands on this one. The machine is compared field by field; the client's values at entry, added at the end of a list,
-- are one more place of a function.
use Rattle.std.proofs.Common.{◌≡◌, ◌<◌, ℕ, zero, suc, false, ◌==◌, arith, if◌then◌else◌, List, [], ◌∷◌, ◌++◌, length, get_or, refl, Some, rules}
use Rattle.qs_played.proofs.Names.{Ticket, put, Locals, ticket}
use Rattle.qs_core_laws.proofs.Names.{ClientCode, code_at, Handler, Settlement, between, begin, core_step, may}
use Rattle.qs_client.specs.audit.ClientModel.{ClientModel, act_due, mind_after_begin_with, settings_of, tree_at}
use Rattle.qs_core.proofs.Names.{put_set_at, ClientPart, core_from}
use Rattle.qs_client.specs.declared.rules.act.Act.TheVariants as acts
use Rattle.qs_played.specs.declared.schedule.actor.Actor.TheVariants as actor
use Rattle.qs_core.proofs.state.CoreFields.{field_put, field_kept, lanes_stay, tickets_kept, tickets_put}

-- a list with one more at its end
pub last_put : {A : Type 0} (xs : List A) (x d : A) (n : ℕ) → get_or (xs ++ x ∷ []) n d ≡ put (λ m. get_or xs m d) (length xs) x n
last_put [] x d zero = refl
last_put [] x d (suc n) = let other : (0 == suc n) ≡ false = grind arith in rw other refl
last_put (y ∷ xs) x d zero = let other : (suc (length xs) == 0) ≡ false = grind arith in rw other refl
last_put (y ∷ xs) x d (suc n) = let next : (suc (length xs) == suc n) ≡ (length xs == n) = grind arith in rw next (last_put xs x d n)

module _ (order : List Ticket) (sides : ℕ → ClientPart) (handler : ℕ → Handler) (tickets : ℕ → List Ticket) (c : ℕ) (l : Locals) where
  abbrev own : ClientModel
  own = (sides c).mind

  abbrev code : ℕ → ClientCode
  code n = (sides n).mind.code

  abbrev pub next_of : Ticket
  next_of = ticket c own.client.begun

  -- the client's side once its block was reserved
  abbrev pub reserved_side : ClientPart
  reserved_side = record { mind = mind_after_begin_with own next_of l; lanes = (sides c).lanes }

  -- each handler of the block's list has one more ticket
  abbrev pub more_tickets : ℕ → List Ticket
  more_tickets h = if may code own.size next_of h then tickets h ++ next_of ∷ [] else tickets h

  abbrev by_block : Settlement
  by_block = begin (settings_of own) next_of (code_at own.code own.client.begun).reserved own.client (tree_at own.code own.client.begun l)

  pub reserve_steps : own.client.stage ≡ between l → act_due own ≡ acts.Reserve → length own.entries ≡ own.client.begun → own.client.begun < length own.traces
      → get_or own.traces own.client.begun [] ≡ []
      → core_step code own.size (core_from order sides handler tickets) (actor.Client c) ≡ Some (core_from (order ++ next_of ∷ []) (put sides c reserved_side) handler more_tickets)
  reserve_steps v asked counted traced empty = search (rules, code, next_of, field_put, field_kept, tickets_kept, lanes_stay, tickets_put, last_put, put_set_at)
