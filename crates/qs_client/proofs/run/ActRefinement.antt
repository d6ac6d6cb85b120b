-- The act that `Run::act` answers is the one that `act_of` defines, and what stays behind is the client without what
-- the act carries (`HasActed`). The contract of `act` needs it at each stage. The idea: at each stage the code looks at
-- the holdings of one handler, so a case for the object, for the open chunk and for neither suffices; that the walk's
-- tree is the one that the client has comes from `walk_up`.
use Rattle.std.proofs.Common.{◌≡◌, ℕ, zero, suc, ◌<◌, ◌≤◌, false, Option, Some, None, List, length, get_or, refl, sym, ap, ◌∙◌, subst, arith}
use Rattle.qs_objects.specs.audit.Journals.{HeldState}
use Rattle.qs_objects.specs.declared.Request.{Request}
use Rattle.qs_program.specs.audit.Limits.{most_handlers}
use Rattle.qs_meaning.specs.audit.Solo.{put}
use Rattle.qs_graph.specs.audit.Steps.{limit}
use Rattle.qs_graph.specs.audit.Walk.{Move, Calls, Syncs, move, tree_of_move, walk}
use Rattle.qs_graph.specs.WellFormed.{IsGraph}
use Rattle.qs_graph.proofs.Saying.{walk_up}
use Rattle.qs_graph.specs.audit.Nodes as places
use Rattle.qs_syncset.specs.audit.Codes.{BlockCode}
use Rattle.qs_syncset.specs.SoundSynced.{IsSoundSynced}
use Rattle.qs_chunk.specs.audit.Batch.{Batch}
use Rattle.qs_chunk.specs.declared.parcel.Parcel.TheVariants as parcels
use Rattle.qs_client.specs.run.NextActs.{HasActed, act_by, holdings_by, clear, clear_by, with_holdings, without, without_by}
use Rattle.qs_client.specs.audit.rules.Client.{Settings, act_at, rest_act}
use Rattle.qs_client.specs.run.Holdings.{holding_at, chunk_at, holding}
use Rattle.qs_client.specs.run.ClientOfRun.{client_of_run, stage_by}
use Rattle.qs_client.specs.run.Running.{IsOver, IsRunning, IsLoud}
use Rattle.qs_client.specs.run.BetweenActs.{IsOutgoingAt, IsStanding, IsSyncing}
use Rattle.qs_client.specs.audit.rules.Outgoings.{without_act, outgoing_of}
use Rattle.qs_client.specs.declared.rules.act.Act.{Act}
use Rattle.qs_client.specs.declared.rules.act.Act.TheVariants.{Send, NeedChunk}
use Rattle.qs_client.specs.run.RunState.{RunState}
use Rattle.qs_client.proofs.run.StepRefinement.{IsAmongEight, among_eight, sized_of}
use Rattle.qs_client.proofs.run.ClearedLanes.{clears_sized, calls_sized, without_cleared, away_at_call, away_at_sync, cleared_running, cleared_over}
use Rattle.qs_client.specs.audit.rules.Client as clients
use Rattle.qs_client.specs.declared.run.stage.Stage.TheVariants as stages

-- what is known of what is outgoing, at a node, at the end, and with a full chunk
gone_at_node : (g : List places.GraphNode) (s : RunState) (h : ℕ) (x : Option HeldState) (c : Option (Batch Request)) (other : Act)
    → IsOutgoingAt g (outgoing_of other) s stages.Runs → IsOutgoingAt g (outgoing_of (clear_by h x c other)) s stages.Runs
gone_at_node g s h None None other w = w
gone_at_node g s h _ _ other w = tt

gone_at_end : (g : List places.GraphNode) (s : RunState) (h i : ℕ) (x : Option HeldState) (c : Option (Batch Request))
    → IsOutgoingAt g (outgoing_of (clear_by h x c (Send h parcels.End))) s (stages.Leaves i)
gone_at_end g s h i None (Some b) = tt
gone_at_end g s h i _ _ = tt

module _ (b : BlockCode) (settings : Settings) (blocks k begun most : ℕ) where
  -- at a call or a synchronisation with this handler
  at_node : (n h : ℕ) (s : RunState) (m : Move) (other : Act) → suc n ≤ most → s.stage ≡ stages.Runs → move b.graph s.position ≡ m → h < most_handlers → IsLoud m
      → IsSoundSynced (put (holding s.holdings) h false) (tree_of_move (walk b.graph n) s.position.locals m)
      → IsRunning b.graph settings.size k (suc n) s
      → clear_by h (holding_at s.holdings h) (chunk_at s.holdings h) other
      ≡ rest_act settings (client_of_run b.graph b.reserved begun s) (tree_of_move (walk b.graph n) s.position.locals m)
      → ((c : clients.Client) → without_act c other ≡ c)
      → IsOutgoingAt b.graph (outgoing_of other) (with_holdings s (without_by s.holdings h (holding_at s.holdings h))) stages.Runs
      → HasActed b settings blocks k begun most (clear_by h (holding_at s.holdings h) (chunk_at s.holdings h) other) s
      (with_holdings s (without_by s.holdings h (holding_at s.holdings h)))
  at_node n h s m other few stands is eight loud sound w act same gone =
      let x = holding_at s.holdings h in
      let c = chunk_at s.holdings h in
      let given = clear_by h x c other in
      let new = with_holdings s (without_by s.holdings h x) in
      let tree : walk b.graph limit s.position ≡ tree_of_move (walk b.graph n) s.position.locals m =
      walk_up b.graph (suc n) limit s.position w.few w.within ∙ ap (λ (q : Move). tree_of_move (walk b.graph n) s.position.locals q) is in
      record {
        act =
            act
            ∙ sym (λ i. act_at settings blocks (client_of_run b.graph b.reserved begun s) (stage_by (stands i) b.reserved (tree i) s.position.locals));
        rest =
            without_cleared begun (stage_by s.stage b.reserved (walk b.graph limit s.position) s.position.locals) s.holdings h other
            (same _) (omega (arith, eight, w.held)) (omega (arith, eight, w.chunks)) x c refl refl;
        position = refl;
        traces = refl;
        stage = refl;
        standing =
            subst (IsStanding b settings.size k most new) (sym stands)
            ((
              suc n,
              few,
              cleared_running b.graph settings.size k (suc n) h s x eight
                  (subst (λ (q : Move). IsSoundSynced (put (holding s.holdings) h false) (tree_of_move (walk b.graph n) s.position.locals q)) (sym is) sound) w,
              subst IsLoud (sym is) loud,
            )
            );
        gone = subst (IsOutgoingAt b.graph (outgoing_of given) new) (sym stands) (gone_at_node b.graph new h x c other gone);
      }

  acts_by : (n : ℕ) (s : RunState) (m : Move) → suc n ≤ most → s.stage ≡ stages.Runs → move b.graph s.position ≡ m → IsAmongEight m → IsLoud m
      → IsSoundSynced (holding s.holdings) (tree_of_move (walk b.graph n) s.position.locals m)
      → IsRunning b.graph settings.size k (suc n) s
      → HasActed b settings blocks k begun most (act_by s.holdings m) s (with_holdings s (holdings_by s.holdings m))
  acts_by n s (Calls r t) few stands is eight loud sound w =
      at_node n r.object s (Calls r t) (NeedChunk r.object) few stands is eight loud (away_at_call (holding s.holdings) r (walk b.graph n t) sound) w
      (calls_sized settings r.object (holding_at s.holdings r.object) (chunk_at s.holdings r.object)
      (sized_of settings.size (chunk_at s.holdings r.object) (w.opened r.object)))
      (λ c. refl) tt
  acts_by n s (Syncs h t) few stands is eight loud sound w =
      at_node n h s (Syncs h t) (Send h parcels.Sync) few stands is eight loud (away_at_sync (holding s.holdings) h (walk b.graph n t) sound) w
      (clears_sized settings h (holding_at s.holdings h) (chunk_at s.holdings h) (Send h parcels.Sync)
      (sized_of settings.size (chunk_at s.holdings h) (w.opened h)))
      (λ c. refl) (subst IsSyncing (sym is) tt)
  acts_by n s _ few stands is eight loud sound w = absurd loud

  pub acts_at_node : (n : ℕ) (s : RunState) → IsGraph b.graph → n ≤ most → s.stage ≡ stages.Runs → IsLoud (move b.graph s.position)
      → IsRunning b.graph settings.size k n s
      → HasActed b settings blocks k begun most (act_by s.holdings (move b.graph s.position)) s (with_holdings s (holdings_by s.holdings (move b.graph s.position)))
  acts_at_node zero s ok few stands loud w = absurd w.within
  acts_at_node (suc n) s ok few stands loud w =
      acts_by n s (move b.graph s.position) few stands refl (among_eight b.graph s.position ok w.within.0) loud w.sound w

  pub acts_leaving : (i : ℕ) (s : RunState) → s.stage ≡ stages.Leaves i → i < length b.reserved → get_or b.reserved i 0 < most_handlers → IsOver b.graph settings.size s
      → HasActed b settings blocks k begun most (clear s.holdings (get_or b.reserved i 0) (Send (get_or b.reserved i 0) parcels.End)) s
      (with_holdings s (without s.holdings (get_or b.reserved i 0)))
  acts_leaving i s stands inside eight w =
      let h = get_or b.reserved i 0 in
      let x = holding_at s.holdings h in
      let c = chunk_at s.holdings h in
      let given = clear_by h x c (Send h parcels.End) in
      let new = with_holdings s (without_by s.holdings h x) in
      record {
        act =
            clears_sized settings h x c (Send h parcels.End) (sized_of settings.size c (w.opened h))
            ∙ sym (λ j. act_at settings blocks (client_of_run b.graph b.reserved begun s) (stage_by (stands j) b.reserved (walk b.graph limit s.position) s.position.locals));
        rest =
            without_cleared begun (stage_by s.stage b.reserved (walk b.graph limit s.position) s.position.locals) s.holdings h (Send h parcels.End)
            refl (omega (arith, eight, w.held)) (omega (arith, eight, w.chunks)) x c refl refl;
        position = refl;
        traces = refl;
        stage = refl;
        standing = subst (IsStanding b settings.size k most new) (sym stands) ((cleared_over b.graph settings.size h s x eight w, inside));
        gone = subst (IsOutgoingAt b.graph (outgoing_of given) new) (sym stands) (gone_at_end b.graph new h i x c);
      }
