-- The quiet moves at a command and at a query, put together from what the code found and did. `Run::call` and
-- `Run::query` change the chunk or the object where it lies; these lemmas say that the values which are kept then are
-- those of `call` and `query` in `Running.antt`. The idea: each is a chain of equal records, one for each thing that
-- the code looked up.
use Rattle.std.proofs.Common.{◌≡◌, ◌<◌, ℕ, Bool, true, false, not, ◌&&◌, IsSome, IsTrue, if◌then◌else◌, is_some, length, Option, Some, None, ℤ, refl, sym, ap, arith, ◌∙◌}
use Rattle.qs_objects.specs.audit.Journals.{HeldState, run_one}
use Rattle.qs_objects.specs.audit.Parts.{command_event}
use Rattle.qs_objects.specs.declared.held.Ticket.{Ticket}
use Rattle.qs_objects.specs.declared.Request.{Request}
use Rattle.qs_meaning.specs.audit.Solo.{event, value_of}
use Rattle.qs_graph.specs.audit.Walk.{Spot}
use Rattle.qs_chunk.specs.audit.Batch.{Batch}
use Rattle.qs_client.specs.run.Holdings.{HoldingsState, holding_at, chunk_at, with_held, with_chunk, with_request, is_full}
use Rattle.qs_objects.specs.Traces.{noted_at}
use Rattle.qs_client.specs.run.Running.{IsOpen, go_to, sync, call_by, call, query_by, query}
use Rattle.qs_client.specs.run.RunState.{RunState}
use Rattle.qs_client.specs.declared.run.stage.Stage.TheVariants as stages

pub none_of : {A : Type 0} (x : Option A) → is_some x ≡ false → x ≡ None
none_of None e = refl
none_of (Some x) e = cc

-- an open chunk that is there has room
pub open_chunk : (size : ℕ) (c : Option (Batch Request)) → IsOpen size c → is_some c ≡ true
    → (b : Batch Request) × (c ≡ Some b) × (length b.items < b.capacity)
open_chunk size None ready found = cc
open_chunk size (Some b) ready found = (b, refl, omega (arith, ready.0, ready.1))

module _ (k : ℕ) (r : Request) (t : Spot) (s : RunState) where
  pub call_fills : (b : Batch Request) (full : Bool) (holdings : HoldingsState)
      → holding_at s.holdings r.object ≡ None → chunk_at s.holdings r.object ≡ Some b
      → full ≡ is_full (with_request b r)
      → holdings ≡ with_chunk s.holdings r.object (Some (with_request b r))
      → ◌≡◌ {A = RunState} (record { position = t; holdings = holdings; traces = noted_at s.traces k (command_event r); stage = if full then stages.Full r.object else s.stage })
      (call k r t s).0
  call_fills b full holdings none found filled put =
      (λ i. record {
        position = t;
        holdings = put i;
        traces = noted_at s.traces k (command_event r);
        stage = if filled i then stages.Full r.object else s.stage;
      })
      ∙ (λ i. (call_by k r t s (sym none i) (sym found i)).0)

-- where the object is held, or no chunk is open, a command changes nothing
pub still_call : (k : ℕ) (r : Request) (t : Spot) (s : RunState) (x : Option HeldState) (c : Option (Batch Request))
    → (not (is_some x) && is_some c) ≡ false → ◌≡◌ {A = RunState × Bool} (call_by k r t s x c) (s, false)
still_call k r t s None (Some b) e = absurd (cc)
still_call k r t s _ _ e = refl

-- a synchronisation that is not skipped changes nothing
pub still_sync : (dynamic : Bool) (h : ℕ) (t : Spot) (s : RunState) → (dynamic && is_some (holding_at s.holdings h)) ≡ false
    → ◌≡◌ {A = RunState × Bool} (sync dynamic h t s) (s, false)
still_sync dynamic h t s e = ap (λ (b : Bool). if b then (go_to s t, true) else (s, false)) e

pub untrue : (b : Bool) → IsTrue (not b) → b ≡ false
untrue true h = cc
untrue false h = refl

pub query_runs : (u : Ticket) (r : Request) (t : ℤ → Spot) (s : RunState) (x : HeldState) (v : Option ℤ) (holdings : HoldingsState)
    → holding_at s.holdings r.object ≡ Some x → v ≡ (run_one x u r).1 → holdings ≡ with_held s.holdings r.object (Some (run_one x u r).0)
    → ◌≡◌ {A = RunState} (record { position = t (value_of v); holdings = holdings; traces = noted_at s.traces u.index (event r v); stage = s.stage }) (query u r t s).0
query_runs u r t s x v holdings found reply put =
    (λ i. record {
      position = t (value_of (reply i));
      holdings = put i;
      traces = noted_at s.traces u.index (event r (reply i));
      stage = s.stage;
    })
    ∙ (λ i. (query_by u r t s (sym found i)).0)

by_held : (u : Ticket) (r : Request) (t : ℤ → Spot) (s : RunState) (x : Option HeldState) → IsSome x → (query_by u r t s x).1 ≡ true
by_held u r t s None h = cc
by_held u r t s (Some x) h = refl

-- after a query the client goes on
pub query_goes_on : (u : Ticket) (r : Request) (t : ℤ → Spot) (s : RunState) → IsSome (holding_at s.holdings r.object) → (query u r t s).1 ≡ true
query_goes_on u r t s h = by_held u r t s (holding_at s.holdings r.object) h
