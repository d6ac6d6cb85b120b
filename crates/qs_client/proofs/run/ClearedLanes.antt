-- What goes to a handler before anything else: the code's `clear` and `send_full` are the model's `clear`, given that
-- an open chunk has the size of all chunks; and what is kept after them is the client without what went, of which all
-- still holds that held before. The proofs of the acts stand on it. The idea: a case for the object, for the chunk, and
-- for neither.
use Rattle.std.proofs.Common.{◌≡◌, ℕ, ◌<◌, Bool, true, false, Option, Some, None, List, length, length-set, refl, sym, ap, ◌∙◌, subst, arith}
use Rattle.qs_objects.specs.audit.Journals.{HeldState}
use Rattle.qs_objects.specs.declared.Request.{Request}
use Rattle.qs_program.specs.audit.Limits.{most_handlers}
use Rattle.qs_meaning.specs.audit.Solo.{put}
use Rattle.qs_graph.specs.audit.Synced.{Synced, Call, Sync}
use Rattle.qs_graph.specs.audit.Walk.{walk}
use Rattle.qs_graph.specs.audit.Nodes as places
use Rattle.qs_syncset.specs.SoundSynced.{IsSoundSynced}
use Rattle.qs_chunk.specs.audit.Batch.{Batch, batch}
use Rattle.qs_chunk.specs.declared.parcel.Parcel.TheVariants as parcels
use Rattle.qs_client.specs.run.NextActs.{clear_by, without_by}
use Rattle.qs_client.specs.audit.rules.Client.{ClientStage, Settings, call_act, clear}
use Rattle.qs_client.specs.run.Holdings.{HoldingsState, holding_at, chunk_at, with_held, holding}
use Rattle.qs_client.specs.run.ClientOfRun.{client_with, items_of}
use Rattle.qs_client.specs.run.Running.{IsOpen, IsSized, IsRunning, IsOver}
use Rattle.qs_client.specs.audit.rules.Outgoings.{without_act}
use Rattle.qs_client.specs.declared.rules.act.Act.{Act}
use Rattle.qs_client.specs.declared.rules.act.Act.TheVariants.{Send, NeedChunk}
use Rattle.qs_client.specs.run.RunState.{RunState}
use Rattle.qs_client.proofs.run.HoldingsAsFunctions.{held_put, items_put, holding_put, chunk_each}
use Rattle.qs_client.proofs.rules.Puts.{put_same, put_twice}
use Rattle.qs_client.proofs.run.InBlock.{held_in_block}

pub clears_sized : (settings : Settings) (h : ℕ) (x : Option HeldState) (c : Option (Batch Request)) (other : Act) → IsSized settings.size c
    → clear_by h x c other ≡ clear settings h x (items_of c) other
clears_sized settings h None (Some b) other w = ap (λ n. Send h (parcels.Work (batch b.items n))) w
clears_sized settings h _ _ other w = refl

pub calls_sized : (settings : Settings) (h : ℕ) (x : Option HeldState) (c : Option (Batch Request)) → IsSized settings.size c
    → clear_by h x c (NeedChunk h) ≡ call_act settings h x (items_of c)
calls_sized settings h None (Some b) w = ap (λ n. Send h (parcels.Work (batch b.items n))) w
calls_sized settings h _ _ w = refl

-- what is kept after an act, by what the act is
pub without_cleared : (begun : ℕ) (p : ClientStage) (s : HoldingsState) (h : ℕ) (other : Act) → without_act (client_with begun p s) other ≡ client_with begun p s
    → h < length s.held → h < length s.chunks → (x : Option HeldState) (c : Option (Batch Request)) → holding_at s h ≡ x → chunk_at s h ≡ c
    → client_with begun p (without_by s h x) ≡ without_act (client_with begun p s) (clear_by h x c other)
without_cleared begun p s h other same inside room (Some x) c e f =
    λ i. record { begun = begun; stage = p; held = held_put s h None inside i; chunk = λ n. items_of (chunk_at s n) }
without_cleared begun p s h other same inside room None (Some b) e f =
    λ i. record {
      begun = begun;
      stage = p;
      held = (held_put s h None inside ∙ put_same (holding_at s) h None e) i;
      chunk = items_put (with_held s h None) h None room i;
    }
without_cleared begun p s h other same inside room None None e f =
    (λ i. record {
      begun = begun;
      stage = p;
      held = (held_put s h None inside ∙ put_same (holding_at s) h None e) i;
      chunk = (items_put (with_held s h None) h None room ∙ put_same (λ n. items_of (chunk_at s n)) h None (ap items_of f)) i;
    })
    ∙ sym same

without_holding : (s : HoldingsState) (h : ℕ) → h < length s.held → (x : Option HeldState) → holding (without_by s h x) ≡ put (holding s) h false
without_holding s h inside (Some x) = holding_put s h None inside
without_holding s h inside None = holding_put s h None inside

without_held : (s : HoldingsState) (h : ℕ) (x : Option HeldState) → length (without_by s h x).held ≡ length s.held
without_held s h (Some x) = length-set s.held h None
without_held s h None = length-set s.held h None

without_chunks : (s : HoldingsState) (h : ℕ) (x : Option HeldState) → length (without_by s h x).chunks ≡ length s.chunks
without_chunks s h (Some x) = refl
without_chunks s h None = length-set s.chunks h None

without_opened : (size : ℕ) (s : HoldingsState) (h : ℕ) → h < length s.chunks → (x : Option HeldState) → ((j : ℕ) → IsOpen size (chunk_at s j))
    → (j : ℕ) → IsOpen size (chunk_at (without_by s h x) j)
without_opened size s h room (Some x) w = w
without_opened size s h room None w = chunk_each (λ j c. IsOpen size c) (with_held s h None) h None room tt (λ j other. w j)

-- before a call or a synchronisation the object may be away
pub away_at_call : (f : ℕ → Bool) (r : Request) (next : Synced) → IsSoundSynced f (Call r next) → IsSoundSynced (put f r.object false) (Call r next)
away_at_call f r next w = subst (λ q. IsSoundSynced q next) (sym (put_twice f r.object false false)) w

pub away_at_sync : (f : ℕ → Bool) (h : ℕ) (next : Synced) → IsSoundSynced f (Sync h next) → IsSoundSynced (put f h false) (Sync h next)
away_at_sync f h next w = subst (λ q. IsSoundSynced q next) (sym (put_twice f h false true)) w

pub cleared_running : (g : List places.GraphNode) (size k n h : ℕ) (s : RunState) (x : Option HeldState) → h < most_handlers
    → IsSoundSynced (put (holding s.holdings) h false) (walk g n s.position) → IsRunning g size k n s
    → IsRunning g size k n (record s { holdings = without_by s.holdings h x })
cleared_running g size k n h s x eight sound w =
    let new = without_by s.holdings h x in
    held_in_block g k (holding s.holdings) (holding new) (λ j c. IsOpen size c) (λ j c. IsOpen size c) s s.stage n new w
    (subst (λ f. IsSoundSynced f (walk g n s.position)) (sym (without_holding s.holdings h (omega (arith, eight, w.held)) x)) sound)
    (without_held s.holdings h x ∙ w.held) (without_chunks s.holdings h x ∙ w.chunks)
    (without_opened size s.holdings h (omega (arith, eight, w.chunks)) x w.opened)

pub cleared_over : (g : List places.GraphNode) (size h : ℕ) (s : RunState) (x : Option HeldState) → h < most_handlers → IsOver g size s
    → IsOver g size (record s { holdings = without_by s.holdings h x })
cleared_over g size h s x eight w = record {
  held = without_held s.holdings h x ∙ w.held;
  chunks = without_chunks s.holdings h x ∙ w.chunks;
  opened = without_opened size s.holdings h (omega (arith, eight, w.chunks)) x w.opened;
}
