-- These lemmas play a schedule of the optimised machine one actor at a time, and say what is shown at its end. The loop
-- of `play_core` keeps that its state is where the actors so far lead (`IsPlayedOn`). An actor adds its step or
-- nothing.
use Rattle.std.proofs.Common.{◌≡◌, ◌<◌, ℕ, zero, suc, ◌+◌, Bool, false, length, get_or, take, arith, List, [], ◌∷◌, ◌++◌, None, refl, ap, ◌∙◌, add-one, rules}
use Rattle.qs_played.proofs.Names.{OnTrue, ProgramShape, schedule, Played}
use Rattle.qs_played.specs.declared.schedule.actor.Actor.{Actor}
use Rattle.qs_core_laws.proofs.Names.{Mode, core_step, core_played}
use Rattle.qs_core_laws.specs.CoreSchedule.{IsShown, core_scheduled}
use Rattle.qs_core.specs.state.CoreState.{CoreIsIsolated, CoreState, CoreSteps, IsFreshCore, IsPlayedOn, IsShownIsolated, codes_of, core_of}
use Rattle.qs_core.proofs.state.CoreReaching.{core_plays_more}

-- one actor more
pub played_more : (p : ProgramShape) (mode : Mode) (size : ℕ) (actors : List Actor) (old new : CoreState) (a : Actor) (b : Bool) → IsPlayedOn p mode size actors old → OnTrue b (CoreSteps old a new)
    → (b ≡ false → core_step (codes_of old) old.size (core_of old) a ≡ None) → (b ≡ false → new ≡ old) → IsPlayedOn p mode size (actors ++ a ∷ []) new
played_more p mode size actors old new a v on steps none same = search (rules, core_plays_more)

-- before the first actor
pub fresh_played : (p : ProgramShape) (mode : Mode) (size : ℕ) (s : CoreState) → IsFreshCore p mode size s → IsPlayedOn p mode size [] s
fresh_played p mode size s fresh = record { program = fresh.program; size = fresh.size; codes = fresh.codes; played = fresh.begins }

take_next : {A : Type 0} (xs : List A) (i : ℕ) (d : A) → i < length xs → take (suc i) xs ≡ take i xs ++ get_or xs i d ∷ []
take_next [] i d less = absurd (omega (arith, less))
take_next (x ∷ xs) zero d less = refl
take_next (x ∷ xs) (suc i) d less = ap (λ zs. x ∷ zs) (take_next xs i d (omega (arith, less)))

pub take_more : {A : Type 0} (xs : List A) (i : ℕ) (d : A) → i < length xs → take (i + 1) xs ≡ take i xs ++ get_or xs i d ∷ []
take_more xs i d less = ap (λ n. take n xs) (add-one i) ∙ take_next xs i d less

-- what is shown after the whole schedule
pub schedule_shown : (p : ProgramShape) (mode : Mode) (size : ℕ) (picks : List Actor) (rounds : ℕ) (s : CoreState) (played : Played) → IsPlayedOn p mode size (schedule p picks rounds) s
    → played ≡ core_played s.program (core_of s) → IsShown p mode size picks rounds played
unfolding core_scheduled
schedule_shown p mode size picks rounds s played on is = search rules

pub schedule_isolated : (p : ProgramShape) (mode : Mode) (size : ℕ) (picks : List Actor) (rounds : ℕ) (s : CoreState) (played : Played) → IsPlayedOn p mode size (schedule p picks rounds) s
    → played ≡ core_played s.program (core_of s) → CoreIsIsolated s → IsShownIsolated p mode size picks rounds played
unfolding core_scheduled IsShownIsolated
schedule_isolated p mode size picks rounds s played on is isolated = search rules
