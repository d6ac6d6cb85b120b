-- Where a call answers with what a run shows, all that is known of what the run shows holds of the answer. `play` and
-- `play_core` may answer an error instead, and promise of their answer that it is isolated and counted. The proof goes
-- by cases on the answer; nothing is claimed of an error.
use Rattle.std.proofs.Common.{◌≡◌, rules}
use Rattle.qs_played.proofs.Names.{Result, IfOk, Played}

pub if_shown : {E : Type 0} (P : Played → Type 0) (result : Result Played E) (shown : Played) → IfOk result (λ played. played ≡ shown) → ((played : Played) → played ≡ shown → P played) → IfOk result P
if_shown P v shown is holds = search rules
