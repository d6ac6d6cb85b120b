use Rattle.std.proofs.Common.{◌<◌, ◌+◌, ◌*◌, length}
use Rattle.qs_conditions.specs.Reading.{part_in, both_in, either_in, and_further, or_further}
use Rattle.qs_conditions.proofs.Chains.{Added}
use Rattle.qs_conditions.proofs.parts.+either.Given as goal

abbrev pub decreases-both : goal.decreases-both
decreases-both l = 4 * l.nested + 1

abbrev pub decreases-either : goal.decreases-either
decreases-either l = 4 * l.nested + 2

abbrev pub decreases-inner : goal.decreases-inner
decreases-inner l = 4 * l.nested + 3

abbrev pub decreases-negation : goal.decreases-negation
decreases-negation l = 4 * l.nested + 3

abbrev pub decreases-part : goal.decreases-part
decreases-part l = 4 * l.nested

abbrev pub invariant-both-each : goal.invariant-both-each
invariant-both-each l = record {
  added : Added (and_further (part_in l.nested)) (both_in l.nested l.signs) l.fn.steps l.steps l.rest;
  shorter : length l.rest < length l.signs;
}

abbrev pub decreases-both-each : goal.decreases-both-each
decreases-both-each l = length l.rest

abbrev pub invariant-either-each : goal.invariant-either-each
invariant-either-each l = record {
  added : Added (or_further (part_in l.nested)) (either_in l.nested l.signs) l.fn.steps l.steps l.rest;
  shorter : length l.rest < length l.signs;
}

abbrev pub decreases-either-each : goal.decreases-either-each
decreases-either-each l = length l.rest
