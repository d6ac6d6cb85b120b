-- The tokens that were passed over come before those of the rest.
use Rattle.std.proofs.Common.{◌≡◌, ◌≤◌, ◌+◌, List, length}
use Rattle.qs_script.specs.declared.tokens.token.Token.{Token}
use Rattle.qs_script.specs.audit.tokens.Tokens.{after, tokens_of}
use Rattle.qs_script.proofs.lines.count_tokens.Given as goal

abbrev pub invariant-each : goal.invariant-each
invariant-each l = record {
  passed : (ts : List Token) × (tokens_of l.text ≡ after ts (tokens_of l.rest)) × (l.count ≡ length ts);
  short : l.count + length l.rest ≤ length l.text;
}

abbrev pub decreases-each : goal.decreases-each
decreases-each l = length l.rest
