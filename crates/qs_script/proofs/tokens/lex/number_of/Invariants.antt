use Rattle.std.proofs.Common.{◌≡◌, ◌<◌, ◌^◌, take}
use Rattle.qs_script.specs.audit.tokens.Tokens.{value_of}
use Rattle.qs_script.proofs.tokens.lex.number_of.Given as goal

abbrev pub invariant-loop-b : goal.invariant-loop-b
invariant-loop-b l = record {
  so_far : l.value ≡ value_of (take l.b-index l.digits);
  small : l.value < 10 ^ l.b-index;
}
