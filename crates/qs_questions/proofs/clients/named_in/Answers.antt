use Rattle.std.proofs.Common.{◌<◌, length, get_or, arith, ap, ◌∙◌}
use Rattle.qs_questions.specs.NamedClients.{is_named}
use Rattle.qs_questions.proofs.NamedSets.{named_join, one_named, set_more}
use Rattle.qs_questions.proofs.clients.named_in.Goals as goal

pub loop-summand-preserved : goal.loop-summand-preserved
loop-summand-preserved c =
    let p = c.args.program.now in
    let xs = c.args.sum.now in
    let i = c.loop-summand.summand-index in
    let same = c.as_slice-summand-items.ensures.same in
    let inside : i < length xs = omega (arith, ap length same) in
    set_more (is_named p) (named_join p) xs i c.summand-item.result c.loop-summand.set c.named_by-set.result inside
    (c.summand-item.is ∙ ap (λ t. get_or t i c.summand-item.result) same)
    (one_named p c.summand-item.result c.named_by-set.result c.named_by-set.ensures.named) c.loop-summand.invariant
