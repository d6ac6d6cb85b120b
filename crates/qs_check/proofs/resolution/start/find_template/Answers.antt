use Rattle.std.proofs.Common.{sym, ◌∙◌}
use Rattle.qs_check.proofs.resolution.TemplateSearch.{found_here, not_here, other_passed}
use Rattle.qs_check.proofs.resolution.start.find_template.Goals as goal
use Rattle.qs_check.proofs.resolution.start.find_template.Goals.{in-Template+else-eq, in_default}

pub returns-then-eq : goal.returns-then-eq
returns-then-eq c = record {
  found = found_here c.args.items.now c.loop-item.item-index c.item-item.result c.loop-item-test.true c.item-item.is c.args.name c.loop-item.invariant c.in-Template.template c.in-Template.is (sym c.eq.ensures ∙ c.if-eq.true);
}

pub loop-item-preserved : goal.loop-item-preserved
loop-item-preserved c =
    elim c.match-item.branch [
      | in-Template+else-eq w ↦
          not_here c.args.items.now c.loop-item.item-index c.item-item.result c.loop-item-test.true c.item-item.is c.args.name c.loop-item.invariant w.in-Template.template w.in-Template.is (sym w.eq.ensures ∙ w.if-eq.false)
      | in_default w ↦
          other_passed c.args.items.now c.loop-item.item-index c.item-item.result c.loop-item-test.true c.item-item.is c.args.name c.loop-item.invariant w.in_default.not-Template
    ]
