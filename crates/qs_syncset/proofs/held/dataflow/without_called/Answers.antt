use Rattle.std.proofs.Common.{◌<◌, ◌+◌, sym, subst, ◌∙◌, arith}
use Rattle.qs_graph.specs.audit.Names.{may_be_one}
use Rattle.qs_program.specs.audit.Limits.{most_handlers}
use Rattle.qs_syncset.proofs.held.Bits.{AreOutBelow, kept_next, out_next}
use Rattle.qs_syncset.proofs.held.dataflow.without_called.Goals as goal
use Rattle.qs_syncset.proofs.held.dataflow.without_called.Goals.{then-may_be_one, else-may_be_one}

pub loop-name-preserved : goal.loop-name-preserved
loop-name-preserved c =
    let called = may_be_one c.args.graph.now c.args.called in
    let inside : c.loop-name.name < most_handlers = omega (arith, c.loop-name-test.true) in
    let out = c.loop-name.invariant.out in
    record {
      out = elim c.if-may_be_one.branch [
        | then-may_be_one w ↦
            subst (λ left. AreOutBelow called c.args.set left (c.loop-name.name + 1)) (sym w.left-is)
            (out_next called c.args.set c.loop-name.left c.loop-name.name inside out (sym c.may_be_one.ensures.value ∙ w.if-may_be_one.true))
        | else-may_be_one w ↦
            subst (λ left. AreOutBelow called c.args.set left (c.loop-name.name + 1)) (sym w.left-is)
            (kept_next called c.args.set c.loop-name.left c.loop-name.name inside out (sym c.may_be_one.ensures.value ∙ w.if-may_be_one.false))
      ];
    }
