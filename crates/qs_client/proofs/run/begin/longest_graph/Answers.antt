use Rattle.std.proofs.Common.{◌≡◌, ◌<◌, max, List, [], ◌∷◌, ◌++◌, length, take, get_or, refl, sym, ap, ◌∙◌, arith}
use Rattle.std.proofs.lemmas.List.{take_all, take_more}
use Rattle.qs_graph.specs.audit.Nodes as places
use Rattle.qs_syncset.specs.audit.Codes.{BlockCode, no_code}
use Rattle.qs_client.specs.audit.run.BlockSizes.{longest}
use Rattle.qs_client.proofs.run.begin.longest_graph.Goals as goal

longest_last : (xs : List BlockCode) (b : BlockCode) → longest (xs ++ b ∷ []) ≡ max (length b.graph) (longest xs)
longest_last [] b = refl
longest_last (x ∷ xs) b = let more = longest_last xs b in omega (arith, more)

pub loop-block-preserved : goal.loop-block-preserved
loop-block-preserved c =
    let blocks : List BlockCode = c.args.code.now.blocks in
    let k = c.loop-block.block in
    let inside : k < length blocks = omega arith in
    let here : c.len.result ≡ length (get_or blocks k no_code).graph = c.len.ensures.value ∙ ap (λ (g : List places.GraphNode). length g) c.graph.ensures.value in
    c.max-most.ensures
    ∙ (λ i. max (here i) (c.loop-block.invariant i))
    ∙ sym (ap longest (take_more blocks k no_code inside) ∙ longest_last (take k blocks) (get_or blocks k no_code))

pub returns : goal.returns
returns c = record { value = c.loop-block.invariant ∙ ap longest (take_all c.loop-block.block c.args.code.now.blocks (omega arith)) }
