use Rattle.std.proofs.Common.{◌≡◌, ◌+◌, drop}
use Rattle.qs_script.specs.tokens.Cutting.{in_run, run_of}
use Rattle.qs_script.proofs.tokens.lex.run_end.Given as goal

abbrev pub invariant-loop-i : goal.invariant-loop-i
invariant-loop-i l = run_of (in_run l.run) l.text ≡ l.i + run_of (in_run l.run) (drop l.i l.text)
