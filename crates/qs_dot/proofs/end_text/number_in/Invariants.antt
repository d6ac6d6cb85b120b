-- None of the outcomes before this one holds the same, and each of them was counted.
use Rattle.qs_dot.proofs.Common.{◌≡◌, ◌+◌, drop, number_in}
use Rattle.qs_dot.proofs.end_text.number_in.Given as goal

abbrev pub invariant-loop-standing : goal.invariant-loop-standing
invariant-loop-standing l = record {
  counted : l.number ≡ l.standing-index + 1;
  left : number_in l.program l.text l.found + 1 ≡ l.number + number_in l.program l.text (drop l.standing-index l.found);
}
