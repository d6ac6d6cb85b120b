-- The lists of the text are those so far, and then those of the texts that are left.
use Rattle.std.proofs.Common.{◌≡◌, map, drop}
use Rattle.std.specs.Global.{Global}
use Rattle.std.specs.Prelude.{Vec}
use Rattle.qs_line.specs.audit.Parts.{clients_in}
use Rattle.qs_line.specs.Parts.{orders_in}
use Rattle.qs_line.specs.declared.parts.Part.{Part}
use Rattle.qs_line.proofs.PartLists.{read_with}
use Rattle.qs_line.proofs.reading.orders_in.Given as goal

abbrev pub invariant-loop-list : goal.invariant-loop-list
invariant-loop-list l = orders_in l.text ≡ read_with clients_in (map (λ (order : Vec Part Global). order.items) l.orders.items) (map (λ list. list.now) (drop l.list-index l.list-items))
