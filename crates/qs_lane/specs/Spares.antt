-- The empty chunks that come back to a client.
use Rattle.std.specs.Prelude.{◌≡◌, ℕ, List, [], ◌∷◌, ◌++◌}
use Rattle.qs_objects.specs.declared.Request.{Request}
use Rattle.qs_chunk.specs.audit.Batch.{Batch, batch}

-- all are empty and of one size
abbrev pub AllEmpty : ℕ → List (Batch Request) → Type 0
AllEmpty size [] = Unit {0}
AllEmpty size (c ∷ cs) = (c ≡ batch [] size) × AllEmpty size cs

pub empty_front : (size : ℕ) (cs ds : List (Batch Request)) → AllEmpty size (cs ++ ds) → AllEmpty size cs
empty_front size [] ds is = tt
empty_front size (c ∷ cs) ds is = (is.0, empty_front size cs ds is.1)
