use Rattle.qs_report.proofs.SyncTables.{of_one_order}
use Rattle.qs_report.proofs.sync_table.SyncTable.new.Goals as goal

pub invariant_of-result : goal.invariant_of-result
invariant_of-result c =
    of_one_order c.args.program.now c.args.none c.args.dynamic c.args.fixed c.args.both c.requires.none c.requires.dynamic c.requires.fixed
    c.requires.both c.requires.dynamic_order c.requires.fixed_order c.requires.both_order
