use Rattle.std.proofs.Common.{◌≤◌, length}
use Rattle.qs_conditions.specs.Reading.{chain, sum_further}
use Rattle.qs_conditions.proofs.Chains.{Continues}
use Rattle.qs_conditions.proofs.values.further.Given as goal

abbrev pub invariant-each : goal.invariant-each
invariant-each l = record {
  whole : Continues sum_further (chain sum_further l.fn.before l.signs) l.sum l.rest;
  within : length l.rest ≤ length l.signs;
}

abbrev pub decreases-each : goal.decreases-each
decreases-each l = length l.rest
