-- No byte before the place is of the kind.
use Rattle.std.proofs.Common.{◌≡◌, ℕ, ◌-◌, ◌<◌, ◌≤◌, false, length, get_or}
use Rattle.qs_line.specs.ScriptClaims.{is_kind}
use Rattle.qs_line.proofs.script_claims.place_of.Given as goal

abbrev pub invariant-loop-place : goal.invariant-loop-place
invariant-loop-place l = (l.place ≤ length l.text) × ((k : ℕ) → k < l.place → is_kind l.blank (get_or l.text k 0) ≡ false)

abbrev pub decreases-loop-place : goal.decreases-loop-place
decreases-loop-place l = length l.text - l.place
