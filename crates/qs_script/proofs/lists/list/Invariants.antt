use Rattle.std.proofs.Common.{◌≤◌, length}
use Rattle.qs_script.specs.grammar.Reading.{list_loop}
use Rattle.qs_script.proofs.Loops.{Continues}
use Rattle.qs_script.proofs.lists.list.Given as goal

abbrev pub invariant-each : goal.invariant-each
invariant-each g l = record {
  whole : Continues (list_loop g.L.Listing.stop_at g.L.Listing.element_at) l.fn.before.items l.tokens l.rest l.list.items;
  shorter : length l.rest ≤ length l.tokens;
}

abbrev pub decreases-each : goal.decreases-each
decreases-each g l = length l.rest
