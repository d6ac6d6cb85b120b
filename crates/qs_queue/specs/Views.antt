-- The two ends of a queue, as contracts see them.
use Rattle.std.specs.Prelude.{◌≡◌, ℕ, List, [], ◌∷◌, ◌++◌, Option, Some, None}
use Rattle.atomic_table.specs.Seated.{TableId}

-- the sending end: the queue's name, how many values it has room for, its key, and all that was sent
pub record SenderView (T K : Type 0) : Type 0 where
  pub name : TableId
  pub room : ℕ
  pub key : K
  pub sent : List T

-- the taking end: the queue's name, its key, and all that was received
pub record TakerView (T K : Type 0) : Type 0 where
  pub name : TableId
  pub key : K
  pub received : List T

-- a take that may find nothing: then nothing changes, and else one value more was received, and all that was received
-- is good
abbrev pub MayTake : {T K : Type 0} (good : K → List T → Type 0) (old new : TakerView T K) → Option T → Type 0
MayTake good old new None = new ≡ old
MayTake good old new (Some value) =
    (new ≡ record old { received = old.received ++ value ∷ [] }) × good old.key (old.received ++ value ∷ [])
