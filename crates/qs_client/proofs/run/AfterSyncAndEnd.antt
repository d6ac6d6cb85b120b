-- What `Run::await_object` and `Run::leave_next` do once a Sync or an End was sent is what the model's `after_sync` and
-- `after_end` do. The contract of `after_send` needs it (`HasSent`). The idea: neither makes a quiet move, so the trace
-- stays, and it only has to be shown that the new stage stands for the model's: the rest of the tree after the
-- synchronisation, or the rest of the list of handlers.
use Rattle.std.proofs.Common.{◌≡◌, ℕ, zero, suc, ◌+◌, ◌<◌, ◌≤◌, Bool, true, false, nat_lt, if◌then◌else◌, List, [], ◌∷◌, length, get_or, drop, refl, sym, ap, ◌∙◌, subst, arith, append-nil, add-one, drop-cons}
use Rattle.std.proofs.lemmas.List.{drop_all}
use Rattle.std.proofs.lemmas.Bool.{ltb-true, ltb-false}
use Rattle.qs_objects.specs.declared.held.Event.{Event}
use Rattle.qs_objects.specs.declared.held.Ticket.{Ticket}
use Rattle.qs_meaning.specs.audit.Solo.{put}
use Rattle.qs_graph.specs.audit.Steps.{limit}
use Rattle.qs_graph.specs.audit.Walk.{Spot, Move, Syncs, move, walk}
use Rattle.qs_graph.specs.Walk.{EachNext}
use Rattle.qs_graph.specs.WellFormed.{IsGraph}
use Rattle.qs_graph.proofs.Saying.{walk_up}
use Rattle.qs_syncset.specs.audit.Codes.{BlockCode}
use Rattle.qs_client.specs.audit.rules.Client.{Client, Settings, after_sync, after_end, end_block, awaits, between}
use Rattle.qs_client.specs.run.Holdings.{HoldingsState, holding}
use Rattle.qs_objects.specs.Traces.{TraceState, trace_at}
use Rattle.qs_client.specs.run.ClientOfRun.{client_with, client_of_run, stage_by, progress_after}
use Rattle.qs_client.specs.run.Running.{IsOpen, IsOver, IsRunning}
use Rattle.qs_client.specs.run.BetweenActs.{IsStanding, IsSyncing, HasSent, await_by, await_object, leave_next_by, leave_next}
use Rattle.qs_client.specs.run.RunState.{RunState}
use Rattle.qs_client.specs.declared.run.run.BlockContext.{BlockContext}
use Rattle.qs_client.specs.declared.run.stage.Stage.{Stage}
use Rattle.qs_client.proofs.run.StepRefinement.{IsBeforeMove, ready, keeps_rows, counts_kept}
use Rattle.qs_client.proofs.run.InBlock.{moved_in_block}
use Rattle.qs_client.specs.audit.rules.Client as clients
use Rattle.qs_client.specs.declared.rules.outgoing.Outgoing.TheVariants as outgoings
use Rattle.qs_client.specs.declared.run.stage.Stage.TheVariants as stages

module _ (b : BlockCode) (settings : Settings) (ticket : Ticket) (begun : ℕ) where
  abbrev context : BlockContext
  context = record { dynamic = settings.dynamic; ticket = ticket }

  abbrev tr : RunState → List Event
  tr s = (trace_at s.traces ticket.index).events

  awaits_by : (o n most : ℕ) (s : RunState) (m : Move) → suc n ≤ most → IsBeforeMove b.graph settings context b.reserved begun (between []) n s m → IsSyncing m
      → HasSent b settings ticket begun most (outgoings.Sync o) s (await_by m s)
  awaits_by o n most s (Syncs h t) few w loud = record {
    standing = (
      n,
      omega (arith, few),
      record {
        handler = w.eight;
        in_block = moved_in_block b.graph ticket.index (holding s.holdings) (put (holding s.holdings) h true) (λ h c. IsOpen settings.size c) (λ h c. IsOpen settings.size c) s (stages.Awaits h) (suc n) n t w.whole
            (omega (arith, w.whole.few)) w.next w.counted w.sound w.fits;
      },
    );
    rows = keeps_rows ticket.index s.traces;
    counts = subst (EachNext (λ (u : Spot). length u.counts ≡ length s.position.counts)) w.is (counts_kept b.graph s.position);
    same =
        let m = client_of_run b.graph b.reserved begun s in
        (λ i. progress_after (tr s) (after_sync settings ticket b.reserved m (stage_by (w.stands i) b.reserved (w.tree i) s.position.locals)))
        ∙ (λ i. record {
          client = client_with begun (awaits h (sym (walk_up b.graph n limit t (omega (arith, w.whole.few)) w.next) i)) s.holdings;
          trace = append-nil (tr s) i;
        });
  }
  awaits_by o n most s _ few w loud = absurd loud

  pub awaits_sent : (o n most : ℕ) (s : RunState) → n ≤ most → IsGraph b.graph → s.stage ≡ stages.Runs → IsRunning b.graph settings.size ticket.index n s
      → IsSyncing (move b.graph s.position) → HasSent b settings ticket begun most (outgoings.Sync o) s (await_object b.graph s)
  awaits_sent o zero most s few ok stands w loud = absurd w.within
  awaits_sent o (suc n) most s few ok stands w loud =
      awaits_by o n most s (move b.graph s.position) few (ready b.graph settings context b.reserved begun (between []) n s ok refl stands w) loud

  -- a run that keeps these
  abbrev at : Spot → HoldingsState → List TraceState → Stage → RunState
  at position holdings traces stage = record { position = position; holdings = holdings; traces = traces; stage = stage }

  left_stays : (most : ℕ) (position : Spot) (holdings : HoldingsState) (traces : List TraceState) (stage : Stage) (p : clients.ClientStage)
      → stage_by stage b.reserved (walk b.graph limit position) position.locals ≡ p
      → ((c : Client) → after_end settings ticket b.reserved c p ≡ clients.stop_at c p)
      → leave_next_by (length b.reserved) stage ≡ stage
      → IsStanding b settings.size ticket.index most (at position holdings traces stage) stage
      → HasSent b settings ticket begun most outgoings.End (at position holdings traces stage) (at position holdings traces (leave_next_by (length b.reserved) stage))
  left_stays most position holdings traces stage p e same on w =
      let s = at position holdings traces stage in
      let c = client_of_run b.graph b.reserved begun s in
      subst (λ x. HasSent b settings ticket begun most outgoings.End s (at position holdings traces x)) (sym on)
      (record {
        standing = w;
        rows = keeps_rows ticket.index traces;
        counts = refl;
        same =
            ap (λ x. progress_after (tr s) (after_end settings ticket b.reserved c x)) e
            ∙ ap (progress_after (tr s)) (same c)
            ∙ (λ i. record { client = client_with begun (sym e i) holdings; trace = append-nil (tr s) i });
      })

  leaves_on : (most : ℕ) (position : Spot) (holdings : HoldingsState) (traces : List TraceState) (i : ℕ) → IsOver b.graph settings.size (at position holdings traces (stages.Leaves i))
      → (more : Bool) → nat_lt (i + 1) (length b.reserved) ≡ more
      → HasSent b settings ticket begun most outgoings.End (at position holdings traces (stages.Leaves i))
      (at position holdings traces (if more then stages.Leaves (i + 1) else stages.Between))
  leaves_on most position holdings traces i over true e =
      let inside : i + 1 < length b.reserved = ltb-true (i + 1) (length b.reserved) e in
      let s = at position holdings traces (stages.Leaves i) in
      let c = client_of_run b.graph b.reserved begun s in
      let next : drop (suc i) b.reserved ≡ get_or b.reserved (i + 1) 0 ∷ drop (suc (i + 1)) b.reserved =
      ap (λ k. drop k b.reserved) (sym (add-one i)) ∙ drop-cons b.reserved (i + 1) 0 inside in
      record {
        standing = (record { held = over.held; chunks = over.chunks; opened = over.opened }, inside);
        rows = keeps_rows ticket.index traces;
        counts = refl;
        same =
            ap (λ hs. progress_after (tr s) (end_block settings ticket b.reserved c hs position.locals)) next
            ∙ (λ j. record {
              client = client_with begun (clients.leaves (get_or b.reserved (i + 1) 0) (drop (suc (i + 1)) b.reserved) position.locals) holdings;
              trace = append-nil (tr s) j;
            });
      }
  leaves_on most position holdings traces i over false e =
      let past : length b.reserved ≤ i + 1 = ltb-false (i + 1) (length b.reserved) e in
      let s = at position holdings traces (stages.Leaves i) in
      let c = client_of_run b.graph b.reserved begun s in
      let none : drop (suc i) b.reserved ≡ [] = drop_all (suc i) b.reserved (omega (arith, past)) in
      record {
        standing = record { held = over.held; chunks = over.chunks; opened = over.opened };
        rows = keeps_rows ticket.index traces;
        counts = refl;
        same =
            ap (λ hs. progress_after (tr s) (end_block settings ticket b.reserved c hs position.locals)) none
            ∙ (λ j. record { client = client_with begun (between position.locals) holdings; trace = append-nil (tr s) j });
      }

  left_by_stage : (most : ℕ) (position : Spot) (holdings : HoldingsState) (traces : List TraceState) (stage : Stage) → IsStanding b settings.size ticket.index most (at position holdings traces stage) stage
      → HasSent b settings ticket begun most outgoings.End (at position holdings traces stage) (at position holdings traces (leave_next_by (length b.reserved) stage))
  left_by_stage most position holdings traces stages.Between w = left_stays most position holdings traces stages.Between (between position.locals) refl (λ c. refl) refl w
  left_by_stage most position holdings traces stages.Runs w = left_stays most position holdings traces stages.Runs (clients.runs (walk b.graph limit position)) refl (λ c. refl) refl w
  left_by_stage most position holdings traces (stages.Full h) w = left_stays most position holdings traces (stages.Full h) (clients.full h (walk b.graph limit position)) refl (λ c. refl) refl w
  left_by_stage most position holdings traces (stages.Awaits h) w = left_stays most position holdings traces (stages.Awaits h) (awaits h (walk b.graph limit position)) refl (λ c. refl) refl w
  left_by_stage most position holdings traces (stages.Leaves i) w = leaves_on most position holdings traces i w.0 (nat_lt (i + 1) (length b.reserved)) refl

  pub end_sent : (most : ℕ) (s : RunState) → IsStanding b settings.size ticket.index most s s.stage → HasSent b settings ticket begun most outgoings.End s (leave_next (length b.reserved) s)
  end_sent most s w = left_by_stage most s.position s.holdings s.traces s.stage w
