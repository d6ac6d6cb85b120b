use Rattle.std.proofs.Common.{◌≤◌, length, []}
use Rattle.qs_script.specs.grammar.Reading.{items_loop}
use Rattle.qs_script.proofs.Loops.{Continues}
use Rattle.qs_script.proofs.items.script.Given as goal

abbrev pub invariant-each : goal.invariant-each
invariant-each l = record {
  whole : Continues items_loop [] l.tokens l.rest l.items.items;
  shorter : length l.rest ≤ length l.tokens;
}

abbrev pub decreases-each : goal.decreases-each
decreases-each l = length l.rest
