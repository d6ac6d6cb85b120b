use Rattle.std.proofs.Common.{◌≡◌, ◌<◌, ℕ, sym, ap, ◌∙◌, subst, List, length, get_or}
use Rattle.qs_graph.specs.audit.Walk.{move}
use Rattle.qs_graph.specs.WellFormed.{IsGraph}
use Rattle.qs_graph.specs.audit.Nodes as places
use Rattle.qs_syncset.specs.audit.Codes.{BlockCode, code_at}
use Rattle.qs_chunk.specs.declared.parcel.Parcel.TheVariants as parcels
use Rattle.qs_client.specs.run.NextActs.{HasActed, IsInside, act_by, clear, holdings_by, with_holdings, without}
use Rattle.qs_client.specs.run.Holdings.{HoldingsState}
use Rattle.qs_client.specs.run.BetweenActs.{IsStanding}
use Rattle.qs_client.specs.declared.rules.act.Act.{Act}
use Rattle.qs_client.specs.declared.rules.act.Act.TheVariants.{Send}
use Rattle.qs_client.specs.run.RunState.{RunState}
use Rattle.qs_client.specs.contracts.run.run.Run.{the_view}
use Rattle.qs_client.proofs.run.ActRefinement.{acts_at_node, acts_leaving}
use Rattle.qs_client.proofs.run.CodeBounds.{below_eight}
use Rattle.qs_client.proofs.run.run.Run.act_into.Goals as goal

pub returns-in-Runs : goal.returns-in-Runs
returns-in-Runs c =
    let s : RunState = c.args.self.now in
    let k = c.args.ticket.index in
    let b : BlockCode = code_at c.args.code.now k in
    let graph : c.graph-graph.result.now.nodes ≡ b.graph = c.graph-graph.ensures.value ∙ ap (λ n. (code_at c.args.code.now n).graph) c.from-block.ensures in
    record {
      acted = λ settings most standing.
          let w = subst (IsStanding b settings.size k most s) (ap (λ (x : RunState). x.stage) (sym c.self.view_is) ∙ c.in-Runs.is) standing in
          let given : c.act_at_node.new.act ≡ act_by s.holdings (move b.graph s.position) =
          c.act_at_node.ensures.act ∙ ap (λ (g : List places.GraphNode). act_by s.holdings (move g s.position)) graph in
          let new : c.act_at_node.new.self ≡ with_holdings s (holdings_by s.holdings (move b.graph s.position)) =
          c.act_at_node.ensures.rest ∙ ap (λ (g : List places.GraphNode). with_holdings s (holdings_by s.holdings (move g s.position))) graph in
          subst (λ (a : Act). HasActed b settings (length c.args.code.now.blocks) k c.args.begun most a s c.act_at_node.new.self) (sym given)
          (
          subst (λ (t : RunState). HasActed b settings (length c.args.code.now.blocks) k c.args.begun most (act_by s.holdings (move b.graph s.position)) s t) (sym new)
          (acts_at_node b settings (length c.args.code.now.blocks) k c.args.begun most w.0 s (subst IsGraph graph c.keeps_graph.ensures.graph) w.1 (ap (λ (x : RunState). x.stage) (sym c.self.view_is) ∙ c.in-Runs.is) w.3 w.2)
          );
    }

pub returns-in-Leaves : goal.returns-in-Leaves
returns-in-Leaves c =
    let s : RunState = the_view c.self.inside in
    let k = c.args.ticket.index in
    let code = c.args.code.now in
    let b : BlockCode = code_at code k in
    let i = c.in-Leaves.place in
    let list : c.reserved.result.now ≡ b.reserved = c.reserved.ensures.value ∙ ap (λ n. (code_at code n).reserved) c.from-block.ensures in
    let blocks = length code.blocks in
    let end = λ (hs : List ℕ). Send (get_or hs i 0) parcels.End in
    let inside : k < blocks = subst (λ t. IsInside t k blocks) c.in-Leaves.is (rw (← c.self.view_is) at c.requires.inside) in
    record {
      acted = λ settings most standing.
          let now = subst (λ (x : RunState). IsStanding b settings.size k most x x.stage) (sym c.self.view_is) standing in
          let w = subst (IsStanding b settings.size k most s) c.in-Leaves.is now in
          let given : c.clear_or_end.new.act ≡ clear s.holdings (get_or b.reserved i 0) (end b.reserved) =
          c.clear_or_end.ensures.act ∙ ap (λ (hs : List ℕ). clear s.holdings (get_or hs i 0) (end hs)) list in
          let new : c.clear_or_end.new.self ≡ without s.holdings (get_or b.reserved i 0) =
          c.clear_or_end.ensures.rest ∙ ap (λ (hs : List ℕ). without s.holdings (get_or hs i 0)) list in
          subst (λ (x : RunState). HasActed b settings blocks k c.args.begun most c.clear_or_end.new.act x (with_holdings s c.clear_or_end.new.self)) c.self.view_is
          (
          subst (λ (a : Act). HasActed b settings blocks k c.args.begun most a s (with_holdings s c.clear_or_end.new.self)) (sym given)
          (
          subst (λ (x : HoldingsState). HasActed b settings blocks k c.args.begun most (clear s.holdings (get_or b.reserved i 0) (end b.reserved)) s (with_holdings s x)) (sym new)
          (acts_leaving b settings blocks k c.args.begun most i s c.in-Leaves.is w.1 (below_eight code k i c.keeps_code.ensures.code inside w.1) w.0)
          )
          );
    }
