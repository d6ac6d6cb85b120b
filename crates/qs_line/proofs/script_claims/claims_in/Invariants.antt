-- The claims of the text are those so far, and then those of the lines that are left.
use Rattle.std.proofs.Common.{◌≡◌, ◌+◌, drop, map}
use Rattle.qs_line.specs.ScriptClaims.{claims_from, claims_in}
use Rattle.qs_line.proofs.script_claims.claims_in.Given as goal

abbrev pub invariant-loop-index : goal.invariant-loop-index
invariant-loop-index l = claims_in l.text ≡ claims_from (l.index + 1) l.claims.items (map (λ line. line.now) (drop l.index l.line-items))
