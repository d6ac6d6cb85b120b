use Rattle.std.proofs.Common.{sym, subst, ◌∙◌, ap}
use Rattle.qs_program.specs.audit.Program.{BlockShape, own_block}
use Rattle.qs_graph.specs.Drawn.{IsDrawing}
use Rattle.qs_graph.specs.WellFormed.{IsGraph}
use Rattle.qs_graph.specs.audit.Graphs.{block_graph}
use Rattle.qs_graph.proofs.Drawings.{graph_drawn}
use Rattle.qs_graph.proofs.Ranges.{blocks_have_graphs}
use Rattle.qs_graph.proofs.build.graph_in.Goals as goal

pub of-requires : goal.of-requires
of-requires c =
    let same = c.in-Ok.ensures.ok ∙ ap block_graph (c.body.ensures.value ∙ ap (λ (b : BlockShape). b.body) c.own_block.ensures.value) in
    record { graph = subst IsGraph (sym same) (blocks_have_graphs c.args.program.now c.args.client c.args.block c.keeps_sound.ensures.sound).own }

pub returns-in-Ok-clause-drawn : goal.returns-in-Ok-clause-drawn
returns-in-Ok-clause-drawn c =
    let body = (own_block c.args.program.now c.args.client c.args.block).body in
    let same = c.of.ensures.value ∙ c.in-Ok.ensures.ok ∙ ap block_graph (c.body.ensures.value ∙ ap (λ (b : BlockShape). b.body) c.own_block.ensures.value) in
    subst (λ g. IsDrawing g body) (sym same) (graph_drawn body)
