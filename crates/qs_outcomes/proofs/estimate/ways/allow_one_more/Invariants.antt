use Rattle.std.proofs.Common.{ℕ}
use Rattle.qs_outcomes.specs.estimate.Estimates.{IsRow}
use Rattle.qs_outcomes.proofs.estimate.Rows.{IsRowUpTo}
use Rattle.qs_outcomes.proofs.estimate.ways.allow_one_more.Given as goal

abbrev pub invariant-loop-ways : goal.invariant-loop-ways
invariant-loop-ways l = (b : ℕ) → IsRow b l.initial.row → IsRowUpTo b l.ways-index l.before l.row
