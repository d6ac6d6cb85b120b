use Rattle.std.proofs.Common.{◌≡◌, ℕ, ◌+◌, ◌<◌, true, false, arith, sym, ap, ◌∙◌, length, subst, List, ◌↔◌}
use Rattle.qs_objects.proofs.Elements.{AllByRecursion-get_or}
use Rattle.qs_graph.specs.declared.node.Node.TheVariants.{Sync}
use Rattle.qs_graph.specs.audit.Nodes.{ControlGraph, GraphNode, place_at}
use Rattle.qs_graph.specs.WellFormed.{IsInRange, IsGraphNode}
use Rattle.qs_graph.specs.audit.Nodes.{exit}
use Rattle.qs_program.specs.audit.Limits.{most_handlers}
use Rattle.qs_syncset.specs.audit.held.Held.{IsHeld}
use Rattle.qs_syncset.specs.held.Table.{has}
use Rattle.qs_syncset.proofs.Removing.{IsDone, done_kept, done_set, removed, not_held, no_sync}
use Rattle.qs_syncset.proofs.removal.coalesce.Goals as goal
use Rattle.qs_syncset.proofs.removal.coalesce.Goals.{in-Sync+then-holds, in-Sync+else-holds, in_default}

-- so far, with the names as they were
abbrev IsDoneWith : ControlGraph → ℕ → ControlGraph → Type 0
IsDoneWith g n now = record { done : IsDone g now.nodes n; names : now.names ≡ g.names; aliases : now.aliases ≡ g.aliases }

inside : (c : goal.Joined-node) → c.loop-n.n < length c.args.graph.nodes
inside c = omega (arith, c.loop-n-test.true, c.len-n-end.ensures.value)

handler_known : (c : goal.Joined-node) (h : ℕ) → (place_at c.args.graph.nodes c.loop-n.n).node ≡ Sync h → h < most_handlers
handler_known c h e =
    let here : IsGraphNode (length c.args.graph.nodes) (place_at c.args.graph.nodes c.loop-n.n) =
    AllByRecursion-get_or (IsGraphNode (length c.args.graph.nodes)) c.args.graph.nodes c.loop-n.n exit c.keeps_graph.ensures.graph.places (inside c) in
    subst IsInRange e here.in_range

exact : (c : goal.Joined-node) (h : ℕ) → (place_at c.args.graph.nodes c.loop-n.n).node ≡ Sync h
    → (has c.args.sets.now c.loop-n.n h ≡ true) ↔ IsHeld c.args.graph c.loop-n.n h
exact c h e = c.requires.sets.exact c.loop-n.n h (inside c) (handler_known c h e)

pub loop-n-preserved : goal.loop-n-preserved
loop-n-preserved c =
    let g = c.args.graph in
    let n = c.loop-n.n in
    let node_same : (place_at g.nodes n).node ≡ c.node.result.now =
    ap (λ (p : GraphNode). p.node) (sym (c.loop-n.invariant.done.rest n (omega arith))) ∙ sym c.node.ensures.value in
    let kept = c.loop-n.invariant.names in
    elim c.match-node.branch [
      | in-Sync+then-holds w ↦
          let is : (place_at g.nodes n).node ≡ Sync w.in-Sync.handler = node_same ∙ w.in-Sync.is in
          let held : IsHeld g n w.in-Sync.handler = (exact c w.in-Sync.handler is).0 (sym w.holds.ensures.value ∙ w.if-holds.true) in
          subst (IsDoneWith g (n + 1)) (sym w.graph-is)
          (record {
            done = subst (λ (now : List GraphNode). IsDone g now (n + 1)) (sym w.make_local.ensures.change)
                (done_set _ _ _ (omega (arith, inside c, c.loop-n.invariant.done.count)) c.loop-n.invariant.done
                (removed (IsHeld g n) w.in-Sync.handler (place_at g.nodes n) is held));
            names = w.make_local.ensures.same_names ∙ kept;
            aliases = w.make_local.ensures.same_aliases ∙ c.loop-n.invariant.aliases;
          })
      | in-Sync+else-holds w ↦
          let is : (place_at g.nodes n).node ≡ Sync w.in-Sync.handler = node_same ∙ w.in-Sync.is in
          let missing : has c.args.sets.now n w.in-Sync.handler ≡ false = sym w.holds.ensures.value ∙ w.if-holds.false in
          subst (IsDoneWith g (n + 1)) (sym w.graph-is)
          (record {
            done = done_kept _ _ _ c.loop-n.invariant.done (not_held (IsHeld g n) w.in-Sync.handler _ is (λ held.
                let never : true ≡ false = sym ((exact c w.in-Sync.handler is).1 held) ∙ missing in cc));
            names = kept;
            aliases = c.loop-n.invariant.aliases;
          })
      | in_default w ↦
          subst (IsDoneWith g (n + 1)) (sym w.graph-is)
          (record {
            done = done_kept _ _ _ c.loop-n.invariant.done (no_sync (IsHeld g n) _ (λ h e. w.in_default.not-Sync h (sym node_same ∙ e)));
            names = kept;
            aliases = c.loop-n.invariant.aliases;
          })
    ]
