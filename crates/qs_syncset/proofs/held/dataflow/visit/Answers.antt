use Rattle.std.proofs.Common.{◌≡◌, ℕ, ◌<◌, length, get_or, take, sym, subst, ◌∙◌, arith, take_all}
use Rattle.qs_program.specs.audit.Limits.{most_handlers}
use Rattle.qs_graph.specs.audit.Nodes.{place_at}
use Rattle.qs_graph.specs.audit.Paths.{IsAmong, HasEdge}
use Rattle.qs_graph.proofs.Inside.{edge_inside}
use Rattle.qs_objects.specs.ByteSets.{in_byte}
use Rattle.qs_syncset.specs.held.Dataflow.{holding_of_node, reached_at, set_at, state, turns_left}
use Rattle.qs_syncset.specs.held.Flow.{HasArrived, held_after}
use Rattle.qs_syncset.proofs.held.Transfer.{arrived_still, arrived_there, fair_edge, reached_inside, sent_from}
use Rattle.qs_syncset.proofs.held.Visits.{among_at, arrived_more, passed_met, visit_done, visit_passed}
use Rattle.qs_syncset.proofs.held.dataflow.visit.Goals as goal
use Rattle.qs_syncset.proofs.held.dataflow.visit.Goals.{After-after-out}

-- what the loop passes on is what goes out of the node
sent : (c : After-after-out) (h : ℕ) → h < most_handlers
    → in_byte c.after-out.result h
    ≡ held_after c.args.graph.now (place_at c.args.graph.now.nodes c.args.node).node (holding_of_node (state c.args.reached.now c.args.sets.now c.args.list.now) c.args.node) h
sent c =
    let first = state c.args.reached.now c.args.sets.now c.args.list.now in
    let known = c.requires.taken.known in
    let inside : c.args.node < length c.args.sets.now =
    omega (arith, reached_inside first _ c.requires.taken.reached, known.each_reached, known.each_set) in
    sent_from c.args.graph.now _ c.after-out.result first _ 0 c.node.ensures.value inside c.after-out.ensures.value

pub loop-to-preserved : goal.loop-to-preserved
loop-to-preserved c =
    let g = c.args.graph.now in
    let x = c.args.node in
    let edges = c.edges-to-items.result.now in
    let to : ℕ = get_or edges c.loop-to.to-index 0 in
    let out = c.after-out.result in
    let first = state c.args.reached.now c.args.sets.now c.args.list.now in
    let old = state c.loop-to.reached c.loop-to.sets c.loop-to.list in
    let new = state c.pass_to.new.reached c.pass_to.new.sets c.pass_to.new.list in
    let visit = c.loop-to.invariant.visit in
    let passed = c.in_ok-pass_to.ensures.passed in
    let edge : HasEdge g.nodes x to =
    subst (λ es. IsAmong to es) c.edges-to-items.ensures.value (among_at _ _ c.loop-to-test.true) in
    let inside : to < length g.nodes = edge_inside g.nodes _ to c.keeps_graph.ensures.graph edge in
    let fair = fair_edge _ first _ to _ c.requires.taken.known.witnessed edge c.requires.taken.reached (sent (goal.at.loop-to-preserved c).After-after-out) in
    let met = passed_met _ _ to _ (omega (arith, visit.known.each_reached)) (omega (arith, visit.known.each_set)) passed in
    record {
      visit = visit_passed g x (set_at first x) (length first.list) (turns_left first) old new to out inside visit fair passed;
      arrived = arrived_more (λ n. HasArrived (reached_at new) (holding_of_node new) n (in_byte out)) edges _ c.loop-to-test.true
          (λ n among. arrived_still _ _ to _ met n (in_byte out) (c.loop-to.invariant.arrived n among)) (arrived_there old new to out met);
    }

pub returns-clause-work : goal.returns-clause-work
returns-clause-work c =
    let edges = c.edges-to-items.result.now in
    let first = state c.args.reached.now c.args.sets.now c.args.list.now in
    let whole : take c.loop-to.to-index edges ≡ edges =
    take_all c.loop-to.to-index edges (omega (arith, c.loop-to-test.false)) in
    visit_done _ _ (set_at first c.args.node) (length first.list) (turns_left first) _ c.after-out.result c.loop-to.invariant.visit
    (λ n leads. c.loop-to.invariant.arrived n (subst (λ es. IsAmong n es) (sym (whole ∙ c.edges-to-items.ensures.value)) leads))
    (sent (goal.at.returns-clause-work c).After-after-out)
