-- Holdings are lists of eight places in the data, and functions of the handlers' numbers in the model. That writing
-- into the list is `put` into the function is needed wherever the data are shown to be the model's. The idea: two
-- functions are equal where their values are, and a handler is the one that was written to or another.
use Rattle.std.proofs.Common.{◌≡◌, ℕ, ◌<◌, false, ◌==◌, Option, None, is_some, length, sym, ap, ◌∙◌, subst, ⊎_elim}
use Rattle.std.proofs.Math.Path.{fun_ext}
use Rattle.qs_objects.specs.audit.Journals.{HeldState}
use Rattle.qs_objects.specs.declared.Request.{Request}
use Rattle.qs_objects.proofs.Choices.{num_cases}
use Rattle.qs_meaning.specs.audit.Solo.{put}
use Rattle.qs_meaning.proofs.TreeWalks.{put_here, put_there}
use Rattle.qs_chunk.specs.audit.Batch.{Batch}
use Rattle.qs_client.proofs.rules.Puts.{put_field, put_set_at}
use Rattle.qs_client.specs.run.Holdings.{HoldingsState, holding_at, holding, chunk_at, with_held, with_chunk}
use Rattle.qs_client.specs.run.ClientOfRun.{items_of}

pub held_put : (s : HoldingsState) (h : ℕ) (x : Option HeldState) → h < length s.held → holding_at (with_held s h x) ≡ put (holding_at s) h x
held_put s h x inside = fun_ext (put_set_at s.held h x None inside)

pub items_put : (s : HoldingsState) (h : ℕ) (c : Option (Batch Request)) → h < length s.chunks
    → (λ n. items_of (chunk_at (with_chunk s h c) n)) ≡ put (λ n. items_of (chunk_at s n)) h (items_of c)
items_put s h c inside = fun_ext (λ n. ap items_of (put_set_at s.chunks h c None inside n) ∙ put_field items_of (chunk_at s) h c n)

pub holding_put : (s : HoldingsState) (h : ℕ) (x : Option HeldState) → h < length s.held → holding (with_held s h x) ≡ put (holding s) h (is_some x)
holding_put s h x inside = fun_ext (λ n. ap is_some (put_set_at s.held h x None inside n) ∙ put_field (λ (y : Option HeldState). is_some y) (holding_at s) h x n)

-- what holds of a chunk that is put, and of the others, holds of each
pub chunk_each : (P : ℕ → Option (Batch Request) → Type 0) (s : HoldingsState) (h : ℕ) (c : Option (Batch Request)) → h < length s.chunks
    → P h c → ((j : ℕ) → (h == j) ≡ false → P j (chunk_at s j)) → (j : ℕ) → P j (chunk_at (with_chunk s h c) j)
chunk_each P s h c inside here others j =
    subst (P j) (sym (put_set_at s.chunks h c None inside j))
    (
    ⊎_elim
    (λ (is : h ≡ j). subst (λ m. P m (put (chunk_at s) h c m)) is (subst (P h) (sym (put_here (chunk_at s) h c)) here))
    (λ (other : (h == j) ≡ false). subst (P j) (sym (put_there (chunk_at s) h c j other)) (others j other))
    (num_cases h j)
    )
