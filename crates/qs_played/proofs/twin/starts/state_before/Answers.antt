use Rattle.std.proofs.Common.{None, Some, ap, sym, ◌∙◌}
use Rattle.qs_objects.specs.audit.Act.{ActResult}
use Rattle.qs_played.proofs.twin.FirstEntries.{here_at, later_at, none_at}
use Rattle.qs_played.proofs.twin.starts.state_before.Goals as goal

pub loop-entry-init : goal.loop-entry-init
loop-entry-init c = λ found s. s

pub returns-then-eq : goal.returns-then-eq
returns-then-eq c = record {
  start = c.loop-entry.invariant (Some c.loop-entry.state)
      (here_at c.loop-entry.state c.args.ticket c.args.journal.now c.loop-entry.entry-index c.entry-item.result c.loop-entry-test.true c.entry-item.is
      (sym c.eq.ensures ∙ c.if-eq.true));
}

pub loop-entry-preserved : goal.loop-entry-preserved
loop-entry-preserved c = λ found later.
    c.loop-entry.invariant found
    (later_at c.loop-entry.state c.args.ticket c.args.journal.now c.loop-entry.entry-index c.entry-item.result c.loop-entry-test.true c.entry-item.is
    (sym c.eq.ensures ∙ c.if-eq.false) c.apply-reply.new.self (ap (λ (o : ActResult). o.0) c.apply-reply.ensures.acts) found later)

pub returns : goal.returns
returns c = record {
  start = c.loop-entry.invariant None (none_at c.loop-entry.state c.args.ticket c.args.journal.now c.loop-entry.entry-index c.loop-entry-test.false);
}
