-- Actors that lead the optimised machine from one state to another (`CoreGoes`): one list after another, one actor
-- more, one round more. The loops of `turn`, `round` and `play_rounds` keep this. What was led to a state from the
-- beginning of a program is led on by it, and where a round leads to the state that it began with, so do all further
-- ones, by induction on their number.
use Rattle.std.proofs.Common.{◌≡◌, ◌∙◌, ◌+◌, ◌++◌, ◌∷◌, [], ℕ, zero, suc, Bool, true, false, None, List, is_some, refl, sym, ap, subst, add-one, append_assoc, arith, rules}
use Rattle.qs_played.proofs.Names.{OnTrue, ProgramShape, HasStep, actors_of, rounds_of, schedule}
use Rattle.qs_played.specs.declared.schedule.actor.Actor.{Actor}
use Rattle.qs_core_laws.proofs.Names.{Mode, plays_by-append, step_at_end, core_step, two_of_each}
use Rattle.qs_played.specs.declared.schedule.actor.Actor.TheVariants as actor
use Rattle.qs_core.specs.CoreOrders.{CoreGoes}
use Rattle.qs_core.specs.state.CoreState.{CoreState, CoreSteps, IsPlayedOn, codes_of, core_of}
use Rattle.qs_core.proofs.state.CoreReaching.{core_plays_more}

pub goes_none : (s : CoreState) → CoreGoes s [] s
goes_none s = record { program = refl; size = refl; codes = refl; played = refl }

-- and the step of one actor more
pub goes_more : (old mid new : CoreState) (xs : List Actor) (a : Actor) (b : Bool) → CoreGoes old xs mid → OnTrue b (CoreSteps mid a new)
    → (b ≡ false → core_step (codes_of mid) mid.size (core_of mid) a ≡ None) → (b ≡ false → new ≡ mid) → CoreGoes old (xs ++ a ∷ []) new
goes_more old mid new xs a v goes steps none same = search (rules, core_plays_more)

pub goes_join : (old mid new : CoreState) (xs ys : List Actor) → CoreGoes old xs mid → CoreGoes mid ys new → CoreGoes old (xs ++ ys) new
goes_join old mid new xs ys first next = search (rules, plays_by-append)

-- two steps of the next handler
pub goes_twice : (old mid one new : CoreState) (c h : ℕ) (a b : Bool) → CoreGoes old (actor.Client c ∷ two_of_each h) mid
    → OnTrue a (CoreSteps mid (actor.Handler h) one) → (a ≡ false → core_step (codes_of mid) mid.size (core_of mid) (actor.Handler h) ≡ None) → (a ≡ false → one ≡ mid)
    → OnTrue b (CoreSteps one (actor.Handler h) new) → (b ≡ false → core_step (codes_of one) one.size (core_of one) (actor.Handler h) ≡ None) → (b ≡ false → new ≡ one)
    → CoreGoes old (actor.Client c ∷ two_of_each (h + 1)) new
goes_twice old mid one new c h a b goes first none same second none_then same_then =
    let front = actor.Client c ∷ two_of_each h in
    let last = actor.Handler h in
    let both = goes_more old one new (front ++ last ∷ []) last b (goes_more old mid one front last a goes first none same) second none_then same_then in
    subst (λ xs. CoreGoes old xs new) (append_assoc front (last ∷ []) (last ∷ []) ∙ ap (λ n. actor.Client c ∷ two_of_each n) (sym (add-one h))) both

-- where the last of some actors has stepped, somebody of them has a step
pub has_stepped : (old mid new : CoreState) (xs : List Actor) (a : Actor) (b : Bool) → CoreGoes old xs mid → OnTrue b (CoreSteps mid a new) → b ≡ true
    → HasStep (core_step (codes_of old) old.size) (xs ++ a ∷ []) (core_of old)
has_stepped old mid new xs a v goes steps so = search (rules, step_at_end, is_some)

-- what has led to a state from the beginning is led on
pub goes_played : (p : ProgramShape) (mode : Mode) (size : ℕ) (actors more : List Actor) (old new : CoreState) → CoreGoes old more new
    → IsPlayedOn p mode size actors old → IsPlayedOn p mode size (actors ++ more) new
goes_played p mode size actors more old new goes on = search (rules, plays_by-append)

-- the rounds after the picks
pub rounds_played : (p : ProgramShape) (mode : Mode) (size : ℕ) (picks : List Actor) (rounds : ℕ) (old new : CoreState) → CoreGoes old (rounds_of rounds (actors_of old.program)) new
    → IsPlayedOn p mode size picks old → IsPlayedOn p mode size (schedule p picks rounds) new
rounds_played p mode size picks rounds old new goes on = search (rules, goes_played)

-- one round more
pub round_on : (old mid new : CoreState) (n : ℕ) → CoreGoes old (rounds_of n (actors_of old.program)) mid → CoreGoes mid (actors_of mid.program) new
    → CoreGoes old (rounds_of (n + 1) (actors_of old.program)) new
round_on old mid new n first next = search (rules, add-one, goes_join)

-- where a round leads to the state that it began with, so do all further ones
pub still_rounds : (old s : CoreState) (n k : ℕ) → CoreGoes s (actors_of s.program) s → CoreGoes old (rounds_of n (actors_of old.program)) s
    → CoreGoes old (rounds_of (n + k) (actors_of old.program)) s
still_rounds old s n zero still on = grind arith
still_rounds old s n (suc k) still on =
    let more : (n + k) + 1 ≡ n + suc k = omega (arith) in
    subst (λ m. CoreGoes old (rounds_of m (actors_of old.program)) s) more (round_on old s s (n + k) (still_rounds old s n k still on) still)
