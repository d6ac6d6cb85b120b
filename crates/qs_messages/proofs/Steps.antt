-- One number more: what is found over the numbers below n + 1 is what is found over those below n, and n after them.
-- The loops over clients and blocks by number stand on it.
use Rattle.std.proofs.Common.{◌≡◌, ℕ, ◌+◌, add-one, ap, ◌∙◌}
use Rattle.qs_messages.specs.Greatest.{up_to}

pub one_more : {A : Type 0} (with : A → ℕ → A) (first before after : A) (n : ℕ) → before ≡ up_to n with first → after ≡ with before n
    → after ≡ up_to (n + 1) with first
one_more with first before after n so_far step = rw add-one (step ∙ ap (λ a. with a n) so_far)
