-- What is left is an end of the text; the tokens so far stand at their places, and those of the rest come after them.
use Rattle.std.proofs.Common.{◌≡◌, ◌≤◌, ◌-◌, length, drop}
use Rattle.qs_script.specs.audit.tokens.Tokens.{after, tokens_of}
use Rattle.qs_messages.specs.Spans.{Stand, tokens_in}
use Rattle.qs_messages.proofs.causes.spans.placed_tokens.Given as goal

abbrev pub invariant-each : goal.invariant-each
invariant-each l = record {
  short : length l.rest ≤ length l.text;
  end_of : l.rest ≡ drop (length l.text - length l.rest) l.text;
  whole : tokens_of l.text ≡ after (tokens_in l.tokens.items) (tokens_of l.rest);
  stand : Stand l.text l.tokens.items (tokens_of l.rest);
}

abbrev pub decreases-each : goal.decreases-each
decreases-each l = length l.rest
