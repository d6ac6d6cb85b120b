-- What the numbers of a request say of it is so in each state of its object's kind. Both laws go by cases on the object
-- and the operation, which the proof search or arithmetic finds.
use Rattle.std.proofs.Common.{◌≡◌, List, Some, arith}
use Rattle.std.proofs.lemmas.Grind.{common_steps}
use Rattle.qs_objects.specs.declared.Op.{Op}
use Rattle.qs_objects.specs.declared.object.Kind.{Kind}
use Rattle.qs_program.specs.declared.code.Atom.{Atom}
use Rattle.qs_messages.specs.declared.warned.certainties.Certainty.TheVariants.{Refused, Zero}
use Rattle.qs_messages.specs.Certainties.{IsAlwaysRefused, IsAlwaysZero, certainty_of}

pub refused : (kind : Kind) (op : Op) (args : List Atom) → certainty_of kind op args ≡ Some Refused → IsAlwaysRefused kind op args
refused = grind (arith, common_steps)

pub zero : (kind : Kind) (op : Op) (args : List Atom) → certainty_of kind op args ≡ Some Zero → IsAlwaysZero kind op args
zero = grind (arith, common_steps)
