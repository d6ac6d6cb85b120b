-- The chunks with which a lane begins are all empty and have the lane's size, and this stays so with one more of them.
-- The loop of `fill`, which makes these chunks, stands on it. It goes by induction on how many chunks there are.
use Rattle.std.proofs.Common.{◌≡◌, ℕ, zero, suc, List, [], ◌∷◌, ◌++◌, replicate, refl, rules}
use Rattle.qs_objects.specs.declared.Request.{Request}
use Rattle.qs_chunk.specs.audit.Batch.{Batch, batch}
use Rattle.qs_lane.specs.Spares.{AllEmpty}
use Rattle.qs_lane.proofs.Spared.{empty_more}

all_empty : (size n : ℕ) → AllEmpty size (replicate n (batch [] size))
all_empty size zero = tt
all_empty size (suc n) = (refl, all_empty size n)

-- one more empty chunk after n of them
pub one_more : (size n key : ℕ) (cs : List (Batch Request)) (c : Batch Request)
    → key ≡ size → cs ≡ replicate n (batch [] size) → c ≡ batch [] size → AllEmpty key (cs ++ c ∷ [])
one_more size n key cs c sized alike empty = search (rules, empty_more, all_empty)
