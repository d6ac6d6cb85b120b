-- What `Run::call` and `Run::query` require where the client comes to them: room in the trace, and for a query the
-- object in the client's holdings. So a query needs no wait once the client has come to it: the walk's tree is sound,
-- as a synchronisation or an earlier one stands before each query. The idea: `IsInBlock` says it of the whole tree,
-- whose first node this is.
use Rattle.std.proofs.Common.{◌≡◌, ℕ, zero, suc, ◌<◌, List, ℤ, IsSome, is_some, arith, subst}
use Rattle.qs_objects.specs.declared.Request.{Request}
use Rattle.qs_graph.specs.audit.Nodes.{GraphNode}
use Rattle.qs_graph.specs.audit.Walk.{Spot, Calls, Queries, move, tree_of_move, walk}
use Rattle.qs_syncset.specs.SoundSynced.{IsSoundSynced}
use Rattle.qs_client.specs.run.Holdings.{holding_at}
use Rattle.qs_objects.specs.Traces.{trace_at}
use Rattle.qs_client.specs.run.Running.{IsRunning, MakesAtMost}
use Rattle.qs_client.specs.run.RunState.{RunState}

module _ (g : List GraphNode) (size k : ℕ) (s : RunState) where
  pub room_for_call : (n : ℕ) (r : Request) (t : Spot) → move g s.position ≡ Calls r t → IsRunning g size k n s → 0 < (trace_at s.traces k).room
  room_for_call zero r t e w = absurd w.within
  room_for_call (suc n) r t e w =
      let more = subst (λ m. MakesAtMost (trace_at s.traces k).room (tree_of_move (walk g n) s.position.locals m)) e w.fits in omega (arith, more.0)

  pub room_for_query : (n : ℕ) (r : Request) (t : ℤ → Spot) → move g s.position ≡ Queries r t → IsRunning g size k n s → 0 < (trace_at s.traces k).room
  room_for_query zero r t e w = absurd w.within
  room_for_query (suc n) r t e w =
      let more = subst (λ m. MakesAtMost (trace_at s.traces k).room (tree_of_move (walk g n) s.position.locals m)) e w.fits in omega (arith, more.0)

  pub held_for_query : (n : ℕ) (r : Request) (t : ℤ → Spot) → move g s.position ≡ Queries r t → IsRunning g size k n s → IsSome (holding_at s.holdings r.object)
  held_for_query zero r t e w = absurd w.within
  held_for_query (suc n) r t e w =
      (subst (λ m. IsSoundSynced (λ h. is_some (holding_at s.holdings h)) (tree_of_move (walk g n) s.position.locals m)) e w.sound).0
