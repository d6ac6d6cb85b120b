use Rattle.std.proofs.Common.{◌≡◌, ◌+◌, drop}
use Rattle.qs_script.specs.audit.tokens.Tokens.{is_name_byte}
use Rattle.qs_script.specs.tokens.Cutting.{run_of}
use Rattle.qs_conditions.proofs.signs.name_length.Given as goal

abbrev pub invariant-loop-i : goal.invariant-loop-i
invariant-loop-i l = run_of is_name_byte l.text ≡ l.i + run_of is_name_byte (drop l.i l.text)
