use Rattle.qs_steps.specs.PlainQueues.{item_in}
use Rattle.qs_steps.specs.declared.wanted.Form.TheVariants as form
use Rattle.std.proofs.Common.{◌++◌, ap, ◌∙◌}
use Rattle.qs_steps.proofs.Queues.{elements_some, on_ok}
use Rattle.qs_steps.proofs.plain_queues.put_elements.Goals as goal

pub returns-in_ok-put_items-in-len1-up : goal.returns-in_ok-put_items-in-len1-up
returns-in_ok-put_items-in-len1-up c =
    let text = item_in form.Json c.args.program.now in
    let out = c.args.out.now.items in
    let first = c.in_ok-put_item-in-len1-up.ensures.ok ∙ ap (λ x. out ++ text x) c.one-item.is in
    record {
      ok = on_ok c.put_items-in-len1-up.result c.put_items-in-len1-up.ensures.ok (λ last empty. elements_some text c.args.first.now c.args.second.now _ out _ _ _ c.in-len1-up.len_at_least first
          c.in_ok-put_items-in-len1-up.ensures.ok last);
    }
