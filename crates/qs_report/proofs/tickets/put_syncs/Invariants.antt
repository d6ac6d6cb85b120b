-- The lines of the objects before this one are there.
use Rattle.std.proofs.Common.{◌≡◌, ◌++◌, [], flat_map, length, slice_index_or, take}
use Rattle.qs_report.specs.audit.Report.{sync_line}
use Rattle.qs_report.proofs.tickets.put_syncs.Given as goal

abbrev pub invariant-loop-object : goal.invariant-loop-object
invariant-loop-object l =
    l.out.items ≡ l.initial.out.items ++ flat_map (sync_line l.program) (take (length l.yielded) (slice_index_or l.played.sync_counts l.place []))
