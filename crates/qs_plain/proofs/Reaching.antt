-- Whatever state the plain rules can be stepped to, what it has shown is isolated and its synchronisations are counted,
-- and one step more leads to such a state again. The contracts of `step`, `keeps_isolated` and `keeps_counted` promise
-- it. A state that was reached is where a list of actors leads, and the laws speak of every such list; a step is one
-- more actor at its end.
use Rattle.std.proofs.Common.{sym, subst, ◌≡◌, Bool, false, List, [], ◌∷◌, ◌++◌, refl, ap, ◌∙◌, Option, rules}
use Rattle.qs_played.proofs.Names.{OnTrue, IfNone, IfSome, IsSound, ProgramShape, or_stay}
use Rattle.qs_played.specs.declared.schedule.actor.Actor.{Actor}
use Rattle.qs_played.specs.Isolation.{IsIsolated}
use Rattle.qs_plain_laws.proofs.Names.{played_of, plays, commands_in_queue, Plain, begin, step}
use Rattle.qs_plain_laws.specs.PlainSyncSums.{AreQueriesCounted}
use Rattle.qs_plain_laws.proofs.PlainSyncs.{plain_syncs_counted}
use Rattle.qs_plain_laws.proofs.Isolating.{runs_isolated}
use Rattle.qs_plain.specs.Rules.{IsSteppedTo, RulesState, AreRulesCounted, AreIsolated, Steps, plain_of}

pub reached_counted : (r : RulesState) → IsSound r.program → IsSteppedTo r → AreRulesCounted r
reached_counted r sound (actors, is) =
    subst (λ s. AreQueriesCounted r.program s (played_of r.program s)) (sym is) (plain_syncs_counted r.program sound actors)

plays_more : (p : ProgramShape) (actors : List Actor) (a : Actor) (s : Plain) → plays p (actors ++ a ∷ []) s ≡ or_stay (plays p actors s) (step p (plays p actors s) a)
plays_more p [] a s = refl
plays_more p (b ∷ actors) a s = plays_more p actors a (or_stay s (step p s b))

stepped : (old new : RulesState) (a : Actor) → IsSteppedTo old → Steps old a new → IsSteppedTo new
stepped old new a (actors, is) steps =
    let p = old.program in
    let there : plays p (actors ++ a ∷ []) (begin p) ≡ plain_of new =
    plays_more p actors a (begin p)
    ∙ (sym (ap (λ s. or_stay s (step p s a)) is) ∙ ap (or_stay (plain_of old)) steps.0) in
    (actors ++ a ∷ [], sym there ∙ ap (λ (q : ProgramShape). plays q (actors ++ a ∷ []) (begin q)) (sym steps.1))

-- a step that may have been made
pub reached_next : (old new : RulesState) (a : Actor) (b : Bool) → IsSteppedTo old → OnTrue b (Steps old a new) → (b ≡ false → new ≡ old) → IsSteppedTo new
reached_next old new a v reached steps same = search (rules, stepped)

-- the same of a step that comes with its effect
pub reached_with_effect : {D : Type 0} (old new : RulesState) (a : Actor) (o : Option D) → IsSteppedTo old → IfSome o (λ _. Steps old a new) → IfNone o (new ≡ old) → IsSteppedTo new
reached_with_effect old new a v reached steps same = search (rules, stepped)

pub reached_isolated : (r : RulesState) → IsSound r.program → IsSteppedTo r → AreIsolated r
reached_isolated r sound (actors, is) =
    subst (λ s. IsIsolated r.program (played_of r.program s) (commands_in_queue s)) (sym is) (runs_isolated r.program sound actors)
