-- After a handler's step at a lane the lane's spare chunks are still empty ones of one size. What the code keeps of its
-- lists (`handler_kept`) has this as a part, and clients take their chunks from there. The proof goes by cases on the
-- act: only one that gives a chunk back adds to them, and that chunk is empty and of the size.
use Rattle.std.proofs.Common.{◌≡◌, ℕ, List, [], ◌∷◌, ◌++◌, Option, Some, None, subst, rules}
use Rattle.qs_played.proofs.Names.{AllByRecursion, Request}
use Rattle.qs_core_laws.proofs.Names.{Batch, batch, Handler}
use Rattle.qs_handler.specs.declared.mind.Act.{Act}
use Rattle.qs_handler.specs.declared.mind.Act.TheVariants as acts
use Rattle.qs_core.specs.parts.CoreHandlers.{lane_step_of_handler, turns_to}
use Rattle.qs_core.specs.parts.LaneStates.{IsStocked, LaneState}

abbrev StockedBy : ℕ → Option (Handler × LaneState) → Type 0
StockedBy size None = Unit {0}
StockedBy size (Some q) = IsStocked size q.1

all_more : {A : Type 0} (P : A → Type 0) (xs : List A) (x : A) → AllByRecursion P xs → P x → AllByRecursion P (xs ++ x ∷ [])
all_more P [] x all here = (here, tt)
all_more P (y ∷ xs) x all here = (all.0, all_more P xs x all.1 here)

module _ (h : Handler) (c : ℕ) (l : LaneState) (size : ℕ) (stocked : IsStocked size l) where
  by_act : (act : Act) → turns_to act ≡ Some c → ((b : Batch Request) → act ≡ acts.Spare c b → b ≡ batch [] size) → StockedBy size (lane_step_of_handler h act l)
  by_act v e fits = search (rules, all_more)

pub handler_stocked : (h next : Handler) (act : Act) (c : ℕ) (l k : LaneState) (size : ℕ) → turns_to act ≡ Some c → lane_step_of_handler h act l ≡ Some (next, k)
    → ((b : Batch Request) → act ≡ acts.Spare c b → b ≡ batch [] size) → IsStocked size l → IsStocked size k
handler_stocked h next act c l k size turned is fits stocked = subst (StockedBy size) is (by_act h c l size stocked act turned fits)
