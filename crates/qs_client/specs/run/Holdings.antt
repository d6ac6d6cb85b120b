-- The holdings of a client: the objects that it holds and its open chunks, by the handlers' numbers.
use Rattle.std.specs.Prelude.{ℕ, ◌==◌, Bool, is_some, List, [], ◌∷◌, ◌++◌, length, Option, None, replicate, slice_index_or, slice_set}
use Rattle.qs_objects.specs.audit.Journals.{HeldState}
use Rattle.qs_objects.specs.declared.Request.{Request}
use Rattle.qs_program.specs.audit.Limits.{most_handlers}
use Rattle.qs_chunk.specs.audit.Batch.{Batch, batch}

-- for each of 8 handlers the object, where it is held, and the open chunk, where there is one
pub record HoldingsState : Type 0 where
  pub held : List (Option HeldState)
  pub chunks : List (Option (Batch Request))

abbrev pub holding_at : HoldingsState → ℕ → Option HeldState
holding_at s h = slice_index_or s.held h None

abbrev pub chunk_at : HoldingsState → ℕ → Option (Batch Request)
chunk_at s h = slice_index_or s.chunks h None

-- for each handler whether its object is held
abbrev pub holding : HoldingsState → ℕ → Bool
holding s h = is_some (holding_at s h)

abbrev pub with_held : HoldingsState → ℕ → Option HeldState → HoldingsState
with_held s h x = record { held = slice_set s.held h x; chunks = s.chunks }

abbrev pub with_chunk : HoldingsState → ℕ → Option (Batch Request) → HoldingsState
with_chunk s h c = record { held = s.held; chunks = slice_set s.chunks h c }

-- a chunk with one more request, and whether a chunk is full
abbrev pub with_request : Batch Request → Request → Batch Request
with_request b r = batch (b.items ++ r ∷ []) b.capacity

abbrev pub is_full : Batch Request → Bool
is_full b = length b.items == b.capacity

abbrev pub no_holdings : HoldingsState
no_holdings = record { held = replicate most_handlers None; chunks = replicate most_handlers None }
