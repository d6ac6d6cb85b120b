-- The text so far has those of the lists before this one.
use Rattle.std.proofs.Common.{map, take}
use Rattle.std.specs.Global.{Global}
use Rattle.std.specs.Prelude.{Vec}
use Rattle.qs_line.specs.declared.parts.Part.{Part}
use Rattle.qs_serve.specs.Due.{AreFrontsTexts}
use Rattle.qs_serve.proofs.fronts.due_of_fronts.Given as goal

abbrev pub invariant-loop-order : goal.invariant-loop-order
invariant-loop-order l = AreFrontsTexts l.format l.program l.blocks (map (λ (order : Vec Part Global). order.items) (take l.order-index l.orders)) l.text.items
