use Rattle.std.proofs.Common.{◌≤◌, length, [], ◌∷◌}
use Rattle.qs_script.specs.grammar.Reading.{more_loop}
use Rattle.qs_script.proofs.Loops.{Continues}
use Rattle.qs_script.proofs.values.several.Given as goal

abbrev pub invariant-each : goal.invariant-each
invariant-each l = record {
  whole : Continues more_loop (l.fn.first ∷ []) l.tokens l.rest l.args;
  shorter : length l.rest ≤ length l.tokens;
}

abbrev pub decreases-each : goal.decreases-each
decreases-each l = length l.rest
