use Rattle.qs_dot.proofs.Common.{◌++◌, ◌∙◌, ap, codes, IsDotText}
use Rattle.qs_dot.proofs.blocks.dot_text.Goals as goal

pub returns : goal.returns
unfolding IsDotText
returns c =
    let (blocks, are, e) = c.in_ok-put_blocks.ensures.ok in
    let first = c.in_ok-put.ensures.ok ∙ ap (λ l. l ++ codes "digraph graphs {\n") c.new-out.ensures.items in
    record { text = (blocks, are, c.in_ok-put-2.ensures.ok ∙ ap (λ l. l ++ codes "}\n") (e ∙ ap (λ l. l ++ blocks) first)) }
