use Rattle.std.proofs.Common.{◌++◌, ◌∙◌, ap, arith}
use Rattle.qs_check.specs.declared.anchors.anchor.Anchor.TheVariants as a
use Rattle.qs_check.specs.anchors.Anchors.{item_anchors, text_anchors}
use Rattle.qs_check.proofs.anchors.Walks.{after_first}
use Rattle.qs_check.proofs.anchors.finding.walk_item.Goals as goal

pub walk_template-requires-clause-anchors : goal.walk_template-requires-clause-anchors
walk_template-requires-clause-anchors c =
    after_first c.args.anchors.now.items c.as_slice.result.now (text_anchors c.in-Template.template) (a.Template c.in-Template.template.name) c.len-from.result
    (omega arith) (c.as_slice.ensures.value ∙ c.in_ok-put_item.ensures.added ∙ ap (λ i. c.args.anchors.now.items ++ item_anchors i) c.in-Template.is)
