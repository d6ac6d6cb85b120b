use Rattle.std.proofs.Common.{◌≡◌, ◌+◌, ◌<◌, ◌^◌, take, drop}
use Rattle.qs_script.specs.audit.tokens.Tokens.{is_digit, value_of}
use Rattle.qs_script.specs.tokens.Cutting.{run_of}
use Rattle.qs_script.proofs.tokens.lex.leading_number.Given as goal

abbrev pub invariant-loop-i : goal.invariant-loop-i
invariant-loop-i l = record {
  run : run_of is_digit l.text ≡ l.i + run_of is_digit (drop l.i l.text);
  so_far : l.value ≡ value_of (take l.i l.text);
  small : l.value < 10 ^ l.i;
}
