-- The list is what the parts so far name, and then what those that are left name.
use Rattle.std.proofs.Common.{◌≡◌, drop}
use Rattle.qs_line.specs.audit.Named.{before, listed_from}
use Rattle.qs_line.proofs.named.all_of.Given as goal

abbrev pub invariant-loop-place : goal.invariant-loop-place
invariant-loop-place g l =
    listed_from (g.N.Naming.due l.program) 0 l.parts ≡ before l.all.items (listed_from (g.N.Naming.due l.program) l.place (drop l.place l.parts))
