-- A queue of empty chunks and a queue of parcels keep their form when a value is sent, whether it went or came back to
-- its sender. The functions of `LaneIn` and `LaneOut` that send parcels and chunks stand on it. It goes by induction on
-- the chunks, and by cases on the result of sending.
use Rattle.std.proofs.Common.{◌≡◌, ℕ, List, [], ◌∷◌, ◌++◌, rules}
use Rattle.std.specs.Prelude.{Result, IfOk, IfErr}
use Rattle.qs_objects.specs.declared.Request.{Request}
use Rattle.qs_chunk.specs.audit.Batch.{Batch, batch}
use Rattle.qs_queue.specs.Views.{SenderView}
use Rattle.qs_lane.specs.Spares.{AllEmpty}

pub empty_more : (size : ℕ) (cs : List (Batch Request)) (c : Batch Request) → AllEmpty size cs → c ≡ batch [] size → AllEmpty size (cs ++ c ∷ [])
empty_more size [] c all is = (is, tt)
empty_more size (d ∷ cs) c all is = (all.0, empty_more size cs c all.1 is)

pub empty_last : (size : ℕ) (cs : List (Batch Request)) (c : Batch Request) → AllEmpty size (cs ++ c ∷ []) → c ≡ batch [] size
empty_last size [] c all = all.0
empty_last size (d ∷ cs) c all = empty_last size cs c all.1

-- whether it was sent or came back, the queue stays as its form says
pub sent_or_back : {T K : Type 0} (good : K → List T → Type 0) (r : Result (Unit {0}) T) (x : T) (old new : SenderView T K)
    → good old.key old.sent → good old.key (old.sent ++ x ∷ [])
    → IfOk r (λ _. new ≡ record old { sent = old.sent ++ x ∷ [] }) → IfErr r (λ y. (y ≡ x) × (new ≡ old))
    → (new.room ≡ old.room) × (new.key ≡ old.key) × good new.key new.sent
sent_or_back {T} {K} good r x old new was more ok back = search rules
