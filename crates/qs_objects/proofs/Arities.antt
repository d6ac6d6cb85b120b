-- No operation takes more than three numbers: so many fit into a request's arguments, wherever a statement's call is
-- made into one.
use Rattle.std.proofs.Common.{◌≤◌, arith, rules}
use Rattle.qs_objects.specs.audit.Operations.{arity}
use Rattle.qs_objects.specs.declared.Op.{Op}

pub arity_small : (op : Op) → arity op ≤ 3
arity_small = search (rules, arith)
