use Rattle.std.proofs.Common.{◌++◌, [], ap, arith, flat_map, length, map, rules, slice_index_or, ◌∙◌}
use Rattle.std.proofs.lemmas.List.{length-map, take_all}
use Rattle.std.proofs.lemmas.Slice.Zip.{zip_end, zip_turn}
use Rattle.qs_sync_counts.specs.audit.SyncRows.{count_of, object_of}
use Rattle.qs_report.specs.audit.Report.{sync_line}
use Rattle.qs_report.proofs.SyncLines.{one_sync_more}
use Rattle.qs_report.proofs.tickets.put_syncs.Goals as goal

pub loop-object-preserved : goal.loop-object-preserved
loop-object-preserved c =
    let rows = slice_index_or c.args.played.now.sync_counts c.args.place [] in
    let turn = zip_turn (map object_of rows) (map count_of rows) c.loop-object.yielded c.into_iter-object-iterator.result c.loop-object.object-iterator
    c.next.new.self c.next.result (search rules) (search rules) c.loop-object.yielded_by (c.in-Some.object, c.in-Some.count) c.in-Some.is c.next.ensures.steps in
    one_sync_more c.args.program.now rows c.loop-object.yielded (c.in-Some.object, c.in-Some.count) c.in-Some.object.now c.in-Some.count.now _ _ _
    turn.0 (turn.2 0) (turn.3 0) c.loop-object.invariant c.in_ok-put_sync.ensures.ok

pub returns : goal.returns
returns c =
    let rows = slice_index_or c.args.played.now.sync_counts c.args.place [] in
    let all = zip_end (map object_of rows) (map count_of rows) c.loop-object.yielded c.into_iter-object-iterator.result c.loop-object.object-iterator
    c.next.new.self c.next.result (search rules) (search rules) c.loop-object.yielded_by c.in-None.is c.next.ensures.steps in
    let whole = take_all (length c.loop-object.yielded) rows (omega (arith, all, length-map rows object_of, length-map rows count_of)) in
    record { ok = c.loop-object.invariant ∙ ap (λ l. c.args.out.now.items ++ flat_map (sync_line c.args.program.now) l) whole }
