-- A list of actors with one more at its end leads the optimised machine to that actor's step, or leaves it where the
-- list led. So each state that `step` leads to is again one that can be reached, and the contracts of `step`,
-- `keeps_isolated` and `into_played` promise of it what the laws say of every list of actors: that it is isolated, and
-- what else holds after each list.
use Rattle.std.proofs.Common.{◌≡◌, ℕ, Bool, false, List, [], ◌∷◌, ◌++◌, Some, sym, subst, ◌∙◌, rules}
use Rattle.qs_played.proofs.Names.{OnTrue, IsSound, or_stay}
use Rattle.qs_played.specs.declared.schedule.actor.Actor.{Actor}
use Rattle.qs_core_laws.proofs.Names.{Mode, ClientCode, AreCodes, plays_by-append, Core, core_begin, core_step, core_played, core_plays, on_way}
use Rattle.qs_played.specs.Isolation.{IsIsolated}
use Rattle.qs_core_laws.specs.CoreReached.{ReachedCore}
use Rattle.qs_core_laws.proofs.CoreIsolating.{core_isolated}
use Rattle.qs_core_laws.proofs.CoreReached.{reached_keeps}
use Rattle.qs_core.specs.state.CoreState.{CoreIsIsolated, CoreKeeps, CoreState, CoreSteps, StepsAreReached, IsCoreState, IsReachedCore, codes_of, core_of}

pub core_plays_more : (code : ℕ → ClientCode) (size : ℕ) (actors : List Actor) (a : Actor) (s : Core)
    → core_plays code size (actors ++ a ∷ []) s ≡ or_stay (core_plays code size actors s) (core_step code size (core_plays code size actors s) a)
core_plays_more code size actors a s = plays_by-append (core_step code size) actors (a ∷ []) s

-- one step more from where a list of actors leads
one_more : (s : CoreState) (a : Actor) (x : Core) (reached : IsReachedCore s) → core_step (codes_of s) s.size (core_of s) a ≡ Some x
    → core_plays (codes_of s) s.size (reached.0 ++ a ∷ []) (core_begin s.program) ≡ x
one_more s a x v e = search (rules, core_plays_more)

pub core_keeps : (s : CoreState) → IsSound s.program → IsCoreState s → IsReachedCore s → CoreKeeps s
core_keeps s sound kept reached = search (rules, reached, reached_keeps)

pub core_goes_on : (s : CoreState) → IsSound s.program → IsCoreState s → IsReachedCore s → StepsAreReached s
core_goes_on s sound kept reached = λ a x e.
    subst (ReachedCore s.program (codes_of s) s.size) (one_more s a x reached e) (reached_keeps s.program sound kept.mode (codes_of s) kept.codes s.size (reached.0 ++ a ∷ []))

core_stepped : (old new : CoreState) (a : Actor) → IsReachedCore old → CoreSteps old a new → IsReachedCore new
core_stepped old new a reached steps = (
  reached.0 ++ a ∷ [],
  sym (one_more old a (core_of new) reached steps.steps)
      ∙ (λ k. core_plays (sym steps.codes k) (sym steps.size k) (reached.0 ++ a ∷ []) (core_begin (sym steps.program k))),
)

-- a step that may have been made
pub core_next : (old new : CoreState) (a : Actor) (b : Bool) → IsReachedCore old → OnTrue b (CoreSteps old a new) → (b ≡ false → new ≡ old) → IsReachedCore new
core_next old new a v reached steps same = search (rules, core_stepped)

isolated_by : (s : CoreState) (mode : Mode) → IsSound s.program → AreCodes s.program mode (codes_of s) → IsReachedCore s → CoreIsIsolated s
isolated_by s mode sound codes reached =
    subst (λ x. IsIsolated s.program (core_played s.program x) (on_way x)) (sym reached.1) (core_isolated s.program sound mode (codes_of s) codes s.size reached.0)

pub core_is_isolated : (s : CoreState) → IsSound s.program → IsCoreState s → IsReachedCore s → CoreIsIsolated s
core_is_isolated s sound kept reached = isolated_by s kept.mode sound kept.codes reached
