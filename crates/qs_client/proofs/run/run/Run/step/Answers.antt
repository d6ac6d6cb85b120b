use Rattle.std.proofs.Common.{refl, sym, ap, ◌∙◌, Bool, if◌then◌else◌}
use Rattle.qs_program.specs.audit.Values.{request_of}
use Rattle.qs_graph.specs.audit.Nodes.{place_at, second_target}
use Rattle.qs_graph.specs.audit.Walk.{at_node, with_value}
use Rattle.qs_graph.specs.declared.node.Node.TheVariants as v
use Rattle.qs_client.specs.run.Running.{call}
use Rattle.qs_client.specs.run.RunState.{RunState}
use Rattle.qs_client.specs.contracts.run.run.Run.{the_view}
use Rattle.qs_client.proofs.run.StepAtNode.{moves, step_at}
use Rattle.qs_client.proofs.run.CallAndQuery.{query_goes_on}
use Rattle.qs_client.proofs.run.NodeRequirements.{room_for_call, room_for_query, held_for_query}
use Rattle.qs_client.proofs.run.run.Run.step.Goals as goal

pub call-requires-clause-room : goal.call-requires-clause-room
call-requires-clause-room c =
    let s : RunState = c.args.self.now in
    let w = c.requires.running in
    let is = ap (λ n. (place_at c.args.graph.now.nodes n).node) (sym (c.node-node.ensures.value ∙ ap (λ (x : RunState). x.position.node) c.self.view_is)) ∙ sym c.node.ensures.value ∙ c.in-Call.is in
    rw c.from.ensures (room_for_call c.args.graph.now.nodes w.0 c.args.context.ticket.index s w.1 _ _ (moves c.args.graph.now.nodes s.position (v.Call c.in-Call.call) is) w.2)

pub query-requires-clause-room : goal.query-requires-clause-room
query-requires-clause-room c =
    let s : RunState = c.args.self.now in
    let w = c.requires.running in
    let is = ap (λ n. (place_at c.args.graph.now.nodes n).node) (sym (c.node-node.ensures.value ∙ ap (λ (x : RunState). x.position.node) c.self.view_is)) ∙ sym c.node.ensures.value ∙ c.in-Query.is in
    room_for_query c.args.graph.now.nodes w.0 c.args.context.ticket.index s w.1 _ _ (moves c.args.graph.now.nodes s.position (v.Query c.in-Query.variable c.in-Query.call) is) w.2

pub query-requires-clause-held : goal.query-requires-clause-held
query-requires-clause-held c =
    let s : RunState = c.args.self.now in
    let w = c.requires.running in
    let is = ap (λ n. (place_at c.args.graph.now.nodes n).node) (sym (c.node-node.ensures.value ∙ ap (λ (x : RunState). x.position.node) c.self.view_is)) ∙ sym c.node.ensures.value ∙ c.in-Query.is in
    held_for_query c.args.graph.now.nodes w.0 c.args.context.ticket.index s w.1 _ _ (moves c.args.graph.now.nodes s.position (v.Query c.in-Query.variable c.in-Query.call) is) w.2

pub returns-in-Call-clause-new : goal.returns-in-Call-clause-new
returns-in-Call-clause-new c =
    let s : RunState = c.args.self.now in
    c.call.ensures.new ∙ ap (λ k. (call k (request_of s.position.locals c.in-Call.call) (at_node s.position c.first_target-next.result) s).0) c.from.ensures ∙
    ap (λ (p : RunState × Bool). p.0) (step_at c.args.graph.now.nodes c.args.context c.args.reserved.now s c.node-node.result c.first_target-next.result (second_target (place_at c.args.graph.now.nodes c.node-node.result)) (v.Call c.in-Call.call) (c.node-node.ensures.value ∙ ap (λ (x : RunState). x.position.node) c.self.view_is) c.first_target-next.ensures.value refl (sym c.node.ensures.value ∙ c.in-Call.is))

pub returns-in-Call-clause-on : goal.returns-in-Call-clause-on
returns-in-Call-clause-on c =
    let s : RunState = c.args.self.now in
    c.call.ensures.on ∙ ap (λ k. (call k (request_of s.position.locals c.in-Call.call) (at_node s.position c.first_target-next.result) s).1) c.from.ensures ∙
    ap (λ (p : RunState × Bool). p.1) (step_at c.args.graph.now.nodes c.args.context c.args.reserved.now s c.node-node.result c.first_target-next.result (second_target (place_at c.args.graph.now.nodes c.node-node.result)) (v.Call c.in-Call.call) (c.node-node.ensures.value ∙ ap (λ (x : RunState). x.position.node) c.self.view_is) c.first_target-next.ensures.value refl (sym c.node.ensures.value ∙ c.in-Call.is))

pub returns-in-Sync-clause-new : goal.returns-in-Sync-clause-new
returns-in-Sync-clause-new c =
    let s : RunState = c.args.self.now in
    c.sync.ensures.new ∙
    ap (λ (p : RunState × Bool). p.0) (step_at c.args.graph.now.nodes c.args.context c.args.reserved.now s c.node-node.result c.first_target-next.result (second_target (place_at c.args.graph.now.nodes c.node-node.result)) (v.Sync c.in-Sync.name) (c.node-node.ensures.value ∙ ap (λ (x : RunState). x.position.node) c.self.view_is) c.first_target-next.ensures.value refl (sym c.node.ensures.value ∙ c.in-Sync.is))

pub returns-in-Sync-clause-on : goal.returns-in-Sync-clause-on
returns-in-Sync-clause-on c =
    let s : RunState = c.args.self.now in
    c.sync.ensures.on ∙
    ap (λ (p : RunState × Bool). p.1) (step_at c.args.graph.now.nodes c.args.context c.args.reserved.now s c.node-node.result c.first_target-next.result (second_target (place_at c.args.graph.now.nodes c.node-node.result)) (v.Sync c.in-Sync.name) (c.node-node.ensures.value ∙ ap (λ (x : RunState). x.position.node) c.self.view_is) c.first_target-next.ensures.value refl (sym c.node.ensures.value ∙ c.in-Sync.is))

pub returns-in-Exit-clause-new : goal.returns-in-Exit-clause-new
returns-in-Exit-clause-new c =
    let s : RunState = c.args.self.now in
    c.end_block.ensures.new ∙
    ap (λ (p : RunState × Bool). p.0) (step_at c.args.graph.now.nodes c.args.context c.args.reserved.now s c.node-node.result c.first_target-next.result (second_target (place_at c.args.graph.now.nodes c.node-node.result)) v.Exit (c.node-node.ensures.value ∙ ap (λ (x : RunState). x.position.node) c.self.view_is) c.first_target-next.ensures.value refl (sym c.node.ensures.value ∙ c.in-Exit.is))

pub returns-in-Exit-clause-on : goal.returns-in-Exit-clause-on
returns-in-Exit-clause-on c =
    rw (← c.self.view_is)
    (
    let s : RunState = the_view c.self.inside in
    ap (λ (p : RunState × Bool). p.1) (step_at c.args.graph.now.nodes c.args.context c.args.reserved.now s c.node-node.result c.first_target-next.result (second_target (place_at c.args.graph.now.nodes c.node-node.result)) v.Exit c.node-node.ensures.value c.first_target-next.ensures.value refl (sym c.node.ensures.value ∙ c.in-Exit.is))
    )

pub returns-in-Query-clause-new : goal.returns-in-Query-clause-new
returns-in-Query-clause-new c =
    let s : RunState = c.args.self.now in
    c.query.ensures.new ∙
    ap (λ (p : RunState × Bool). p.0) (step_at c.args.graph.now.nodes c.args.context c.args.reserved.now s c.node-node.result c.first_target-next.result (second_target (place_at c.args.graph.now.nodes c.node-node.result)) (v.Query c.in-Query.variable c.in-Query.call) (c.node-node.ensures.value ∙ ap (λ (x : RunState). x.position.node) c.self.view_is) c.first_target-next.ensures.value refl (sym c.node.ensures.value ∙ c.in-Query.is))

pub returns-in-Query-clause-on : goal.returns-in-Query-clause-on
returns-in-Query-clause-on c =
    let s : RunState = c.args.self.now in
    let w = c.requires.running in
    let is = ap (λ n. (place_at c.args.graph.now.nodes n).node) (sym (c.node-node.ensures.value ∙ ap (λ (x : RunState). x.position.node) c.self.view_is)) ∙ sym c.node.ensures.value ∙ c.in-Query.is in
    let held = held_for_query c.args.graph.now.nodes w.0 c.args.context.ticket.index s w.1 _ _ (moves c.args.graph.now.nodes s.position (v.Query c.in-Query.variable c.in-Query.call) is) w.2 in
    sym (query_goes_on c.args.context.ticket (request_of s.position.locals c.in-Query.call) (λ v. at_node (with_value s.position c.in-Query.variable v) c.first_target-next.result) s held) ∙
    ap (λ (p : RunState × Bool). p.1) (step_at c.args.graph.now.nodes c.args.context c.args.reserved.now s c.node-node.result c.first_target-next.result (second_target (place_at c.args.graph.now.nodes c.node-node.result)) (v.Query c.in-Query.variable c.in-Query.call) (c.node-node.ensures.value ∙ ap (λ (x : RunState). x.position.node) c.self.view_is) c.first_target-next.ensures.value refl (sym c.node.ensures.value ∙ c.in-Query.is))

pub returns-in-Entry-clause-new : goal.returns-in-Entry-clause-new
returns-in-Entry-clause-new c =
    rw (← c.self.view_is)
    (
    let s : RunState = the_view c.self.inside in
    ap (λ w. record s { position = w }) c.go_to.ensures.value ∙
    ap (λ (p : RunState × Bool). p.0) (step_at c.args.graph.now.nodes c.args.context c.args.reserved.now s c.node-node.result c.first_target-next.result (second_target (place_at c.args.graph.now.nodes c.node-node.result)) v.Entry c.node-node.ensures.value c.first_target-next.ensures.value refl (sym c.node.ensures.value ∙ c.in-Entry.is))
    )

pub returns-in-Entry-clause-on : goal.returns-in-Entry-clause-on
returns-in-Entry-clause-on c =
    rw (← c.self.view_is)
    (
    let s : RunState = the_view c.self.inside in
    ap (λ (p : RunState × Bool). p.1) (step_at c.args.graph.now.nodes c.args.context c.args.reserved.now s c.node-node.result c.first_target-next.result (second_target (place_at c.args.graph.now.nodes c.node-node.result)) v.Entry c.node-node.ensures.value c.first_target-next.ensures.value refl (sym c.node.ensures.value ∙ c.in-Entry.is))
    )

pub returns-in-Local-clause-new : goal.returns-in-Local-clause-new
returns-in-Local-clause-new c =
    rw (← c.self.view_is)
    (
    let s : RunState = the_view c.self.inside in
    ap (λ w. record s { position = w }) c.act.ensures.acted ∙
    ap (λ (p : RunState × Bool). p.0) (step_at c.args.graph.now.nodes c.args.context c.args.reserved.now s c.node-node.result c.first_target-next.result (second_target (place_at c.args.graph.now.nodes c.node-node.result)) (v.Local c.in-Local.action) c.node-node.ensures.value c.first_target-next.ensures.value refl (sym c.node.ensures.value ∙ c.in-Local.is))
    )

pub returns-in-Local-clause-on : goal.returns-in-Local-clause-on
returns-in-Local-clause-on c =
    rw (← c.self.view_is)
    (
    let s : RunState = the_view c.self.inside in
    ap (λ (p : RunState × Bool). p.1) (step_at c.args.graph.now.nodes c.args.context c.args.reserved.now s c.node-node.result c.first_target-next.result (second_target (place_at c.args.graph.now.nodes c.node-node.result)) (v.Local c.in-Local.action) c.node-node.ensures.value c.first_target-next.ensures.value refl (sym c.node.ensures.value ∙ c.in-Local.is))
    )

pub returns-then-chooses-clause-new : goal.returns-then-chooses-clause-new
returns-then-chooses-clause-new c =
    rw (← c.self.view_is)
    (
    let s : RunState = the_view c.self.inside in
    let first = c.first_target-next.result in
    let second = second_target (place_at c.args.graph.now.nodes c.node-node.result) in
    ap (λ w. record s { position = w }) (c.go_to-then-chooses.ensures.value ∙ ap (λ b. at_node c.chooses.new.self (if b then first else second)) (sym c.if-chooses.true) ∙ c.chooses.ensures.chosen first second) ∙
    ap (λ (p : RunState × Bool). p.0) (step_at c.args.graph.now.nodes c.args.context c.args.reserved.now s c.node-node.result first second (v.Branch c.in-Branch.choice) c.node-node.ensures.value c.first_target-next.ensures.value refl (sym c.node.ensures.value ∙ c.in-Branch.is))
    )

pub returns-then-chooses-clause-on : goal.returns-then-chooses-clause-on
returns-then-chooses-clause-on c =
    rw (← c.self.view_is)
    (
    let s : RunState = the_view c.self.inside in
    ap (λ (p : RunState × Bool). p.1) (step_at c.args.graph.now.nodes c.args.context c.args.reserved.now s c.node-node.result c.first_target-next.result (second_target (place_at c.args.graph.now.nodes c.node-node.result)) (v.Branch c.in-Branch.choice) c.node-node.ensures.value c.first_target-next.ensures.value refl (sym c.node.ensures.value ∙ c.in-Branch.is))
    )

pub returns-else-chooses-clause-new : goal.returns-else-chooses-clause-new
returns-else-chooses-clause-new c =
    rw (← c.self.view_is)
    (
    let s : RunState = the_view c.self.inside in
    let first = c.first_target-next.result in
    let second = c.second_target.result in
    ap (λ w. record s { position = w }) (c.go_to-in-Branch.ensures.value ∙ ap (λ b. at_node c.chooses.new.self (if b then first else second)) (sym c.if-chooses.false) ∙ c.chooses.ensures.chosen first second) ∙
    ap (λ (p : RunState × Bool). p.0) (step_at c.args.graph.now.nodes c.args.context c.args.reserved.now s c.node-node.result first second (v.Branch c.in-Branch.choice) c.node-node.ensures.value c.first_target-next.ensures.value c.second_target.ensures.value (sym c.node.ensures.value ∙ c.in-Branch.is))
    )

pub returns-else-chooses-clause-on : goal.returns-else-chooses-clause-on
returns-else-chooses-clause-on c =
    rw (← c.self.view_is)
    (
    let s : RunState = the_view c.self.inside in
    ap (λ (p : RunState × Bool). p.1) (step_at c.args.graph.now.nodes c.args.context c.args.reserved.now s c.node-node.result c.first_target-next.result c.second_target.result (v.Branch c.in-Branch.choice) c.node-node.ensures.value c.first_target-next.ensures.value c.second_target.ensures.value (sym c.node.ensures.value ∙ c.in-Branch.is))
    )
