use Rattle.std.proofs.Common.{◌≡◌, ◌++◌, ap, append_assoc, ◌∙◌}
use Rattle.qs_steps.proofs.Names.{before_it, core_of, serving}
use Rattle.qs_core.specs.parts.CoreHandlers.{handler_with_act}
use Rattle.qs_steps.proofs.Queues.{one_of}
use Rattle.qs_steps.proofs.core_queues.tickets_before.Goals as goal

pub returns : goal.returns
returns c =
    let s = core_of c.args.core.now in
    let served = c.as_slice.result.now in
    let first = c.tickets.result.0.now in
    let second = c.tickets.result.1.now in
    let one = one_of c.serving-ticket.result (serving (handler_with_act c.handler-queue.result.now)) served c.serving-ticket.ensures.value c.as_slice.ensures ∙ ap serving c.handler-queue.ensures.mind in
    let others = c.tickets.ensures.tickets ∙ c.handler-queue.ensures.tickets in
    let all : served ++ (first ++ second) ≡ before_it s c.args.handler = λ k. one k ++ others k in
    let pushed = c.in_ok-push_all.ensures.ok ∙ ap (λ l. l ++ served) c.new-tickets.ensures.items in
    let more = c.in_ok-push_all-2.ensures.ok ∙ ap (λ l. l ++ first) pushed in
    record { value = c.in_ok-push_all-3.ensures.ok ∙ ap (λ l. l ++ second) more ∙ append_assoc served first second ∙ all }
