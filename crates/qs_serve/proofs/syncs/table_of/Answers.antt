use Rattle.std.proofs.Common.{◌∙◌, subst, sym}
use Rattle.qs_serial.specs.audit.NamedOrders.{order_of}
use Rattle.qs_syncset.specs.declared.mode.Mode.TheVariants.{Plain, Dynamic, Static, Both}
use Rattle.qs_report.specs.SyncTable.{IsExactTable}
use Rattle.qs_serve.specs.Due.{default_chunk}
use Rattle.qs_serve.proofs.SyncDues.{exact_in}
use Rattle.qs_serve.proofs.syncs.table_of.Goals as goal

pub returns-clause-exact : goal.returns-clause-exact
returns-clause-exact c =
    let p = c.args.program.now in
    let order = order_of c.args.clients.now in
    subst (IsExactTable p order) (sym c.new.ensures.value) (record {
      same = c.in_ok-none.ensures.order;
      none = exact_in p Plain default_chunk order c.in_ok-none.none c.in_ok-none.ensures.played;
      dynamic = exact_in p Dynamic default_chunk order c.in_ok-dynamic.dynamic c.in_ok-dynamic.ensures.played;
      static = exact_in p Static default_chunk order c.in_ok-fixed.fixed c.in_ok-fixed.ensures.played;
      both = exact_in p Both default_chunk order c.in_ok-both.both c.in_ok-both.ensures.played;
    })
