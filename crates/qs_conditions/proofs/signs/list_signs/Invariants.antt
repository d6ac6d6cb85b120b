use Rattle.std.proofs.Common.{◌≡◌, ◌≤◌, ◌-◌, length, drop}
use Rattle.qs_conditions.specs.Signs.{signs_from, signs_of}
use Rattle.qs_conditions.proofs.Lexer.{before_all}
use Rattle.qs_conditions.proofs.signs.list_signs.Given as goal

abbrev pub invariant-each : goal.invariant-each
invariant-each l = record {
  so_far : signs_of l.text ≡ before_all l.signs.items (signs_from l.place 0 (drop l.place l.text));
  within : l.place ≤ length l.text;
}

abbrev pub decreases-each : goal.decreases-each
decreases-each l = length l.text - l.place
