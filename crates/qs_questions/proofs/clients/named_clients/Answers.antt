use Rattle.std.proofs.Common.{◌<◌, length, get_or, arith, ap, ◌∙◌}
use Rattle.qs_questions.specs.NamedClients.{named_clients}
use Rattle.qs_questions.proofs.NamedSets.{set_more, steps_join}
use Rattle.qs_questions.proofs.clients.named_clients.Goals as goal

pub loop-step-preserved : goal.loop-step-preserved
loop-step-preserved c =
    let p = c.args.program.now in
    let xs = c.args.condition.now in
    let i = c.loop-step.step-index in
    let same = c.as_slice-step-items.ensures.same in
    let inside : i < length xs = omega (arith, ap length same) in
    set_more (named_clients p) (steps_join p) xs i c.step-item.result c.loop-step.set c.named_at-set.result inside
    (c.step-item.is ∙ ap (λ t. get_or t i c.step-item.result) same)
    c.named_at-set.ensures.named c.loop-step.invariant
