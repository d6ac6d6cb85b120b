-- A gate that was passed for what a handler took so far, and then for what it takes next, was passed for all of that.
-- The loop of a handler's thread stands on it. It goes by induction on what was taken first.
use Rattle.std.proofs.Common.{ℕ, List, [], ◌∷◌, ◌++◌, sym, subst, rules, arith}
use Rattle.qs_run.proofs.Names.{Next, ArePassed}
use Rattle.qs_objects.specs.declared.held.Next.TheVariants as nexts
use Rattle.qs_objects.specs.declared.held.Ticket.{Ticket}

pub passed_more : {L : Type 0} (moves : L → Ticket → ℕ → L → Type 0) (object : ℕ) (taken more : List Next) (log then end : L)
    → ArePassed moves object log taken then → ArePassed moves object then more end → ArePassed moves object log (taken ++ more) end
passed_more moves object [] more log then end before after = subst (λ l. ArePassed moves object l more end) (sym before) after
passed_more moves object (next ∷ taken) more log then end before after = search (rules, passed_more moves object taken more)
