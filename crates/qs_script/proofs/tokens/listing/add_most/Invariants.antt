use Rattle.std.proofs.Common.{◌≡◌, ◌≤◌, ◌+◌, length, vec_len, vec_capacity}
use Rattle.qs_script.specs.audit.tokens.Tokens.{tokens_of, after}
use Rattle.qs_script.proofs.tokens.listing.add_most.Given as goal

abbrev pub invariant-each : goal.invariant-each
invariant-each l = record {
  so_far : after l.fn.tokens.items (tokens_of l.text) ≡ after l.tokens.items (tokens_of l.rest);
  room : vec_len l.tokens + length l.rest ≤ vec_capacity l.tokens;
}

abbrev pub decreases-each : goal.decreases-each
decreases-each l = length l.rest
