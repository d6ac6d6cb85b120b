use Rattle.std.proofs.Common.{◌≡◌, length}
use Rattle.qs_objects.specs.ByteSets.{in_byte}
use Rattle.qs_alike.specs.Apart.{AreApartUpTo}
use Rattle.qs_alike.specs.Texts.{classes_in}
use Rattle.qs_alike.proofs.apart.classes_apart.Given as goal

abbrev pub invariant-loop-client : goal.invariant-loop-client
invariant-loop-client l = record {
  long : length l.split ≡ 8;
  upto : AreApartUpTo (classes_in l.classes) (in_byte l.apart) l.client (classes_in l.split);
}
