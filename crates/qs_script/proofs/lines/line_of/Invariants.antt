-- The place begins a line; the tokens before it are counted, and there are no more than bytes.
use Rattle.std.proofs.Common.{◌≡◌, ◌≤◌, ◌+◌, ◌-◌, List, length}
use Rattle.qs_script.specs.declared.tokens.token.Token.{Token}
use Rattle.qs_diagnosis.specs.Spots.{spot_at}
use Rattle.qs_script.proofs.PassedLines.{IsFront}
use Rattle.qs_script.proofs.lines.line_of.Given as goal

abbrev pub invariant-each : goal.invariant-each
invariant-each l = record {
  front : (us : List Token) × IsFront l.text l.place us × (length us + l.left ≡ l.fn.number);
  first : (spot_at l.text l.place).column ≡ 1;
  few : l.fn.number ≤ l.left + l.place;
  within : l.place ≤ length l.text;
}

abbrev pub decreases-each : goal.decreases-each
decreases-each l = length l.text - l.place
