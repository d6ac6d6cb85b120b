use Rattle.std.proofs.Common.{◌<◌, length, arith}
use Rattle.qs_outcomes.proofs.estimate.Rows.{row_begun, row_on}
use Rattle.qs_outcomes.proofs.estimate.ways.allow_one_more.Goals as goal

pub loop-ways-preserved : goal.loop-ways-preserved
loop-ways-preserved c = λ b is.
    row_on b c.loop-ways.ways-index c.loop-ways.before c.loop-ways.row (let within : c.loop-ways.ways-index < length c.loop-ways.row = omega arith in within) (c.loop-ways.invariant b is) c.min-before.result
    (let s = c.saturating_add.ensures in let m = c.min-before.ensures in omega (arith, s, m))

pub loop-ways-init : goal.loop-ways-init
loop-ways-init c = λ b is. row_begun b c.args.row.now is

pub returns : goal.returns
returns c = record { more = λ b is m within. (c.loop-ways.invariant b is).done m (omega (arith, within, c.loop-ways-test.false)) within }
