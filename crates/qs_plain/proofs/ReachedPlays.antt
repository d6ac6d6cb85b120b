-- A list of actors that is played on from a state that can be reached leads to such a state again. `Rules::play_rounds`
-- needs it.
use Rattle.std.proofs.Common.{◌≡◌, List, ◌++◌, ap, sym, ◌∙◌}
use Rattle.qs_played.specs.declared.schedule.actor.Actor.{Actor}
use Rattle.qs_plain_laws.proofs.Names.{begin, plays}
use Rattle.qs_plain.specs.Rules.{IsSteppedTo, RulesState, plain_of}
use Rattle.qs_plain.proofs.Playing.{plays-append}

pub reached_plays : (old new : RulesState) (actors : List Actor) → IsSteppedTo old → plain_of new ≡ plays old.program actors (plain_of old) → new.program ≡ old.program → IsSteppedTo new
reached_plays old new actors reached there same =
    let p = old.program in
    let all = reached.0 ++ actors in
    (all, there ∙ ap (plays p actors) reached.1 ∙ sym (plays-append p reached.0 actors (begin p)) ∙ ap (λ q. plays q all (begin q)) (sym same))
