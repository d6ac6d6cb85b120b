-- A list of statements is replayed as its first and then the others, and a repeat as its next turn and then the others.
-- The loops of a replay, over statements and over turns, stand on this. The first goes by cases on a statement.
use Rattle.std.proofs.Common.{◌≡◌, ◌<◌, ◌+◌, ◌-◌, ℕ, suc, List, ◌∷◌, length, get_or, drop, refl, ap, arith, add-one, drop-cons}
use Rattle.qs_objects.specs.declared.held.Event.{Event}
use Rattle.qs_program.specs.declared.code.Stmt.{Stmt}
use Rattle.qs_program.specs.declared.code.Stmt.TheVariants.{Leave}
use Rattle.qs_program.specs.audit.Values.{Locals}
use Rattle.qs_program.specs.Views.{single, statements_of}
use Rattle.qs_meaning.specs.audit.Interaction.{turns_in}
use Rattle.qs_json.specs.audit.Replay.{Replay, replay}

replay_cons : (s : Stmt) (xs : List Stmt) (next leaves : Replay) (l : Locals) (es : List Event)
    → replay (statements_of (s ∷ xs)) next leaves l es ≡ replay (single s) (replay (statements_of xs) next leaves) leaves l es
replay_cons Leave xs next leaves l es = refl
replay_cons _ xs next leaves l es = refl

-- the statement at a place, and then the rest
pub replay_drop : (xs : List Stmt) (i : ℕ) (s d : Stmt) (next leaves : Replay) (l : Locals) (es : List Event) → i < length xs → s ≡ get_or xs i d
    → replay (statements_of (drop i xs)) next leaves l es ≡ replay (single s) (replay (statements_of (drop (i + 1) xs)) next leaves) leaves l es
replay_drop xs i s d next leaves l es within is =
    rw (drop-cons xs i d within, add-one i, is) (replay_cons (get_or xs i d) (drop (suc i) xs) next leaves l es)

-- a repeat is its next turn and then the others
pub turns_left : (n k : ℕ) (body : Replay → Replay) (next : Replay) (l : Locals) (es : List Event) → k < n
    → turns_in (n - k) body next l es ≡ body (turns_in (n - (k + 1)) body next) l es
turns_left n k body next l es less =
    let left : n - k ≡ suc (n - (k + 1)) = omega (arith, less) in ap (λ m. turns_in m body next l es) left
