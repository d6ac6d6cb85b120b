use Rattle.std.proofs.Common.{◌≡◌, length}
use Rattle.qs_alike.specs.Texts.{AreClassesUpTo}
use Rattle.qs_alike.proofs.classes.classes_of.Given as goal

abbrev pub invariant-loop-client : goal.invariant-loop-client
invariant-loop-client l = record {
  long : length l.classes ≡ 8;
  upto : AreClassesUpTo l.program l.client l.classes;
}
