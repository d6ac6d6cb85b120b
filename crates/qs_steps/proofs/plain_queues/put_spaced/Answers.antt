use Rattle.std.proofs.Common.{◌++◌, ap, codes, flat_map, sym, ◌∙◌}
use Rattle.qs_steps.specs.PlainQueues.{item_in, spaced}
use Rattle.qs_steps.specs.declared.wanted.Form.TheVariants as form
use Rattle.qs_steps.proofs.Queues.{empty_list, filled_list, joined, on_ok, spaced_both}
use Rattle.qs_steps.proofs.plain_queues.put_spaced.Goals as goal

pub returns-then-is_empty : goal.returns-then-is_empty
returns-then-is_empty c =
    let p = c.args.program.now in
    let none = c.items.ensures.filled (empty_list c.items.result.0.now c.is_empty.result c.is_empty.ensures c.if-is_empty.true) in
    record { ok = on_ok c.put.result c.put.ensures.ok (λ text. text ∙ ap (λ xs. c.args.out.now.items ++ xs) (sym (ap (spaced (item_in form.Text p)) none))) }

pub returns-in_ok-put_items : goal.returns-in_ok-put_items
returns-in_ok-put_items c =
    let p = c.args.program.now in
    let first = c.items.result.0.now in
    let second = c.items.result.1.now in
    record {
      ok = on_ok c.put_items-else-is_empty.result c.put_items-else-is_empty.ensures.ok (λ last. joined c.args.out.now.items _ _ (flat_map (λ i. codes " " ++ item_in form.Text p i) first) (flat_map (λ i. codes " " ++ item_in form.Text p i) second) c.in_ok-put_items.ensures.ok last
          ∙ ap (λ xs. c.args.out.now.items ++ xs) (sym (spaced_both (item_in form.Text p) first second c.args.queue.now.queue.items (filled_list first c.is_empty.result c.is_empty.ensures c.if-is_empty.false) c.items.ensures.items)));
    }
