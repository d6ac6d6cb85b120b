-- A client within a block whose holdings change, or whose position does. What `IsInBlock` says has ten parts, and an
-- act or a quiet move touches few of them: these lemmas ask for those and keep the others, so that no proof has to list
-- all ten.
use Rattle.std.proofs.Common.{◌≡◌, ◌≤◌, ℕ, Bool, Option, List, length}
use Rattle.qs_objects.specs.declared.Request.{Request}
use Rattle.qs_objects.specs.Traces.{trace_at}
use Rattle.qs_program.specs.audit.Limits.{most_handlers}
use Rattle.qs_graph.specs.audit.Nodes.{GraphNode}
use Rattle.qs_graph.specs.audit.Steps.{limit}
use Rattle.qs_graph.specs.audit.Walk.{Spot, walk}
use Rattle.qs_graph.specs.Walk.{Within}
use Rattle.qs_syncset.specs.SoundSynced.{IsSoundSynced}
use Rattle.qs_chunk.specs.audit.Batch.{Batch}
use Rattle.qs_client.specs.run.Holdings.{HoldingsState, chunk_at}
use Rattle.qs_client.specs.run.RunState.{RunState}
use Rattle.qs_client.specs.run.Running.{IsInBlock, MakesAtMost}
use Rattle.qs_client.specs.declared.run.stage.Stage.{Stage}

module _ (g : List GraphNode) (k : ℕ) (relied next : ℕ → Bool) (IsChunk IsNext : ℕ → Option (Batch Request) → Type 0) (s : RunState) (stage : Stage) where
  -- with these holdings, and at this stage
  pub held_in_block : (n : ℕ) (holdings : HoldingsState) → IsInBlock g k n relied IsChunk s → IsSoundSynced next (walk g n s.position)
      → length holdings.held ≡ most_handlers → length holdings.chunks ≡ most_handlers → ((h : ℕ) → IsNext h (chunk_at holdings h))
      → IsInBlock g k n next IsNext (record { position = s.position; holdings = holdings; traces = s.traces; stage = stage })
  held_in_block n holdings w sound held chunks opened = record {
    few = w.few;
    within = w.within;
    counted = w.counted;
    sound = sound;
    fits = w.fits;
    row = w.row;
    last = w.last;
    held = held;
    chunks = chunks;
    opened = opened;
  }

  -- at this position, and at this stage
  pub moved_in_block : (n m : ℕ) (t : Spot) → IsInBlock g k n relied IsChunk s → m ≤ limit → Within g m t → length g ≤ length t.counts
      → IsSoundSynced next (walk g m t) → MakesAtMost (trace_at s.traces k).room (walk g m t)
      → IsInBlock g k m next IsChunk (record { position = t; holdings = s.holdings; traces = s.traces; stage = stage })
  moved_in_block n m t w few within counted sound fits = record {
    few = few;
    within = within;
    counted = counted;
    sound = sound;
    fits = fits;
    row = w.row;
    last = w.last;
    held = w.held;
    chunks = w.chunks;
    opened = w.opened;
  }
