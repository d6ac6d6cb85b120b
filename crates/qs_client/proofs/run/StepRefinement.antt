-- Quiet work of the data is quiet work of the client. The contracts of `settle` and of all that resumes need it
-- (`HasSettled`). The idea: one step either goes on, and then what remains of the block's tree makes the same of the
-- client and its trace, or it stops, and then nothing remains to be done (`IsAfterStep`); each kind of move is a case,
-- and what holds within a block is kept by each (`IsInBlock`). The loop of `settle` joins steps by `goes_on` and
-- `stops`, and ends since each step leaves one move less (`moves_fall`).
use Rattle.std.proofs.Common.{◌≡◌, ℕ, zero, suc, ◌<◌, ◌≤◌, Bool, true, false, not, ◌==◌, ◌&&◌, if◌then◌else◌, List, [], ◌∷◌, ◌++◌, ℤ, Option, Some, None, is_some, length, get_or, refl, sym, ap, ◌∙◌, subst, arith, append-nil, append_assoc, ⊎_elim, length-append, length-set}
use Rattle.std.proofs.lemmas.List.{get_or-set_same, get_or-set_other}
use Rattle.qs_objects.specs.audit.Journals.{HeldState, run_one}
use Rattle.qs_objects.specs.audit.Parts.{command_event}
use Rattle.qs_objects.specs.declared.held.Event.{Event}
use Rattle.qs_objects.specs.declared.Request.{Request}
use Rattle.qs_objects.specs.declared.held.Ticket.{Ticket}
use Rattle.qs_objects.proofs.Choices.{eqb_self, apart_eqb, and_cases, num_cases}
use Rattle.qs_meaning.specs.audit.Solo.{put, event, value_of}
use Rattle.qs_graph.specs.declared.node.Node.{Node}
use Rattle.qs_graph.specs.declared.node.Action.TheVariants.{SetCount}
use Rattle.qs_graph.specs.declared.node.Choice.TheVariants.{Repeat}
use Rattle.qs_graph.specs.WellFormed.{IsGraph, IsGraphNode, IsInRange}
use Rattle.qs_graph.specs.audit.Nodes.{GraphNode, place_at, first_target, second_target, exit}
use Rattle.qs_graph.specs.audit.Steps.{limit}
use Rattle.qs_graph.specs.audit.Synced.{Synced, Done, Call, Sync, Query}
use Rattle.qs_graph.specs.audit.Walk.{Spot, Move, Ends, Goes, Calls, Syncs, Queries, move, move_by, after_repeat, tree_of_move, walk}
use Rattle.qs_graph.specs.Walk.{EachNext, Within}
use Rattle.qs_graph.proofs.Saying.{walk_up}
use Rattle.qs_graph.specs.declared.node.Node.TheVariants as nodes
use Rattle.qs_syncset.specs.SoundSynced.{IsSoundSynced}
use Rattle.qs_syncset.specs.audit.Codes.{BlockCode}
use Rattle.qs_chunk.specs.audit.Batch.{Batch, batch}
use Rattle.qs_client.specs.audit.rules.Client.{Client, Settings, Settlement, settle, stop_at, with_event, runs, full}
use Rattle.qs_client.specs.run.Holdings.{HoldingsState, holding_at, chunk_at, with_held, with_chunk, holding}
use Rattle.qs_objects.proofs.TraceRows.{empty_after_note}
use Rattle.qs_objects.specs.Traces.{TraceState, trace_state, trace_at, with_last_event, noted_at}
use Rattle.qs_objects.proofs.Elements.{AllByRecursion-get_or}
use Rattle.qs_program.specs.audit.Limits.{most_handlers, most_objects}
use Rattle.qs_client.specs.run.ClientOfRun.{items_of, client_with, client_of_run, stage_of, stage_by, progress_after, progress_through, progress_at, HasSettled}
use Rattle.qs_client.specs.run.BetweenActs.{IsStanding, HasSent}
use Rattle.qs_client.specs.audit.rules.Outgoings.{resume}
use Rattle.qs_client.specs.run.Running.{IsInBlock, IsRunning, IsFull, IsStopped, IsLoud, IsOpen, IsSized, KeepsRows, MakesAtMost, go_to, call_by, call, query_by, query, sync, end_block, step_by, quiet_step}
use Rattle.qs_client.specs.run.RunState.{RunState}
use Rattle.qs_client.specs.declared.run.run.BlockContext.{BlockContext}
use Rattle.qs_client.specs.declared.run.stage.Stage.{Stage}
use Rattle.qs_client.proofs.run.HoldingsAsFunctions.{held_put, items_put, holding_put, chunk_each}
use Rattle.qs_client.proofs.rules.Puts.{put_same}
use Rattle.qs_client.proofs.run.InBlock.{held_in_block, moved_in_block}
use Rattle.qs_client.specs.audit.rules.Client as clients
use Rattle.qs_client.specs.declared.rules.outgoing.Outgoing.TheVariants as outgoings
use Rattle.qs_client.specs.declared.run.stage.Stage.TheVariants as stages

-- the handlers that a move names are among the 8
abbrev pub IsAmongEight : Move → Type 0
IsAmongEight (Calls r t) = r.object < most_objects
IsAmongEight (Syncs h t) = h < most_handlers
IsAmongEight (Queries r t) = r.object < most_objects
IsAmongEight m = Unit {0}

pub sized_of : (size : ℕ) (c : Option (Batch Request)) → IsOpen size c → IsSized size c
sized_of size None h = tt
sized_of size (Some b) h = h.0

below : (n capacity size : ℕ) → (n == capacity) ≡ false → capacity ≡ size → n ≤ size → n < size
below n capacity size e same h = let apart = apart_eqb n capacity e in omega (arith, apart)

-- an event that enters a trace before the others
noted_on : (tr : List Event) (e : Event) (z : Settlement) (t : TraceState) → t.events ≡ tr ++ e ∷ [] → progress_after tr (with_event e z) ≡ progress_after t.events z
noted_on tr e z t same =
    (λ i. record { client = z.client; trace = sym (append_assoc tr (e ∷ []) z.events) i })
    ∙ (λ i. record { client = z.client; trace = sym same i ++ z.events })

eight_by : (v : Node) (s : Spot) (a b : ℕ) → IsInRange v → IsAmongEight (move_by v s a b)
eight_by (nodes.Sync o) s a b h = h
eight_by (nodes.Query x c) s a b h = h.1.0
eight_by (nodes.Call c) s a b h = h.0
eight_by _ s a b h = tt

pub among_eight : (g : List GraphNode) (s : Spot) → IsGraph g → s.node < length g → IsAmongEight (move g s)
unfolding move
among_eight g s ok inside =
    let here : IsGraphNode (length g) (place_at g s.node) = AllByRecursion-get_or (IsGraphNode (length g)) g s.node exit ok.places inside in
    eight_by (place_at g s.node).node s (first_target (place_at g s.node)) (second_target (place_at g s.node)) here.in_range

turned_counts : (k : ℕ) (s : Spot) (a b : ℕ) → length (after_repeat k s a b).counts ≡ length s.counts
turned_counts zero s a b = refl
turned_counts (suc k) s a b = length-set s.counts s.node k

counts_by : (v : Node) (s : Spot) (a b : ℕ) → EachNext (λ t. length t.counts ≡ length s.counts) (move_by v s a b)
counts_by (nodes.Local (SetCount k)) s a b = length-set s.counts a k
counts_by (nodes.Branch Repeat) s a b = turned_counts (get_or s.counts s.node 0) s a b
counts_by (nodes.Query x c) s a b = λ v. refl
counts_by nodes.Exit s a b = tt
counts_by _ s a b = refl

-- a move leaves as many counts
pub counts_kept : (g : List GraphNode) (s : Spot) → EachNext (λ t. length t.counts ≡ length s.counts) (move g s)
unfolding move
counts_kept g s = counts_by (place_at g s.node).node s (first_target (place_at g s.node)) (second_target (place_at g s.node))

enough_counts : (m k : ℕ) (x : Move) → m ≤ k → EachNext (λ t. length t.counts ≡ k) x → EachNext (λ t. m ≤ length t.counts) x
enough_counts m k Ends h w = tt
enough_counts m k (Queries r t) h w = λ v. omega (arith, h, w v)
enough_counts m k _ h w = omega (arith, h, w)

pub keeps_rows : (k : ℕ) (ts : List TraceState) → KeepsRows k ts ts
keeps_rows k ts = record { count = refl; others = λ j other. refl }

pub keeps_both : (k : ℕ) (a b c : List TraceState) → KeepsRows k a b → KeepsRows k b c → KeepsRows k a c
keeps_both k a b c v w = record { count = w.count ∙ v.count; others = λ j other. w.others j other ∙ v.others j other }

keeps_noted : (k : ℕ) (ts : List TraceState) (e : Event) → KeepsRows k ts (noted_at ts k e)
keeps_noted k ts e = record {
  count = length-set ts k (with_last_event (trace_at ts k) e);
  others = λ j other. get_or-set_other ts k j (with_last_event (trace_at ts k) e) (trace_state [] 0) (λ same. apart_eqb k j other (sym same));
}

call_rows : (k : ℕ) (r : Request) (t : Spot) (s : RunState) (x : Option HeldState) (b : Option (Batch Request)) → KeepsRows k s.traces (call_by k r t s x b).0.traces
call_rows k r t s None (Some b) = keeps_noted k s.traces (command_event r)
call_rows k r t s _ _ = keeps_rows k s.traces

query_rows : (u : Ticket) (r : Request) (t : ℤ → Spot) (s : RunState) (x : Option HeldState) → KeepsRows u.index s.traces (query_by u r t s x).0.traces
query_rows u r t s None = keeps_rows u.index s.traces
query_rows u r t s (Some x) = keeps_noted u.index s.traces (event r (run_one x u r).1)

sync_rows : (k : ℕ) (b : Bool) (s : RunState) (t : Spot) → KeepsRows k s.traces (let z : RunState × Bool = if b then (go_to s t, true) else (s, false) in z).0.traces
sync_rows k true s t = keeps_rows k s.traces
sync_rows k false s t = keeps_rows k s.traces

call_counts : (m k : ℕ) (r : Request) (t : Spot) (s : RunState) (x : Option HeldState) (b : Option (Batch Request)) → length s.position.counts ≡ m → length t.counts ≡ m
    → length (call_by k r t s x b).0.position.counts ≡ m
call_counts m k r t s None (Some b) h w = w
call_counts m k r t s _ _ h w = h

query_counts : (m : ℕ) (u : Ticket) (r : Request) (t : ℤ → Spot) (s : RunState) (x : Option HeldState) → length s.position.counts ≡ m → ((v : ℤ) → length (t v).counts ≡ m)
    → length (query_by u r t s x).0.position.counts ≡ m
query_counts m u r t s None h w = h
query_counts m u r t s (Some x) h w = w (value_of (run_one x u r).1)

sync_counts : (m : ℕ) (b : Bool) (s : RunState) (t : Spot) → length s.position.counts ≡ m → length t.counts ≡ m
    → length (let z : RunState × Bool = if b then (go_to s t, true) else (s, false) in z).0.position.counts ≡ m
sync_counts m true s t h w = w
sync_counts m false s t h w = h

step_counts : (context : BlockContext) (reserved : List ℕ) (m : ℕ) (x : Move) (s : RunState) → length s.position.counts ≡ m → EachNext (λ t. length t.counts ≡ m) x
    → length (step_by context reserved x s).0.position.counts ≡ m
step_counts context reserved m Ends s h w = h
step_counts context reserved m (Goes t) s h w = w
step_counts context reserved m (Calls r t) s h w = call_counts m context.ticket.index r t s (holding_at s.holdings r.object) (chunk_at s.holdings r.object) h w
step_counts context reserved m (Syncs o t) s h w = sync_counts m (context.dynamic && is_some (holding_at s.holdings o)) s t h w
step_counts context reserved m (Queries r t) s h w = query_counts m context.ticket r t s (holding_at s.holdings r.object) h w

all_counts : (g : List GraphNode) (context : BlockContext) (reserved : List ℕ) (s : RunState) → length (quiet_step g context reserved s).0.position.counts ≡ length s.position.counts
all_counts g context reserved s = step_counts context reserved (length s.position.counts) (move g s.position) s refl (counts_kept g s.position)

rows_by : (context : BlockContext) (reserved : List ℕ) (m : Move) (s : RunState) → KeepsRows context.ticket.index s.traces (step_by context reserved m s).0.traces
rows_by context reserved (Calls r t) s = call_rows context.ticket.index r t s (holding_at s.holdings r.object) (chunk_at s.holdings r.object)
rows_by context reserved (Syncs h t) s = sync_rows context.ticket.index (context.dynamic && is_some (holding_at s.holdings h)) s t
rows_by context reserved (Queries r t) s = query_rows context.ticket r t s (holding_at s.holdings r.object)
rows_by context reserved _ s = keeps_rows context.ticket.index s.traces

rows_kept : (g : List GraphNode) (context : BlockContext) (reserved : List ℕ) (s : RunState) → KeepsRows context.ticket.index s.traces (quiet_step g context reserved s).0.traces
rows_kept g context reserved s = rows_by context reserved (move g s.position) s

-- who has stopped within fewer nodes has stopped within more
pub stopped_up : (g : List GraphNode) (reserved : List ℕ) (size k a b : ℕ) (s : RunState) (stage : Stage) → a ≤ b → IsStopped g reserved size k a s stage → IsStopped g reserved size k b s stage
stopped_up g reserved size k a b s stages.Runs h w = (w.0, omega (arith, h, w.1), w.2, w.3)
stopped_up g reserved size k a b s (stages.Full x) h w = (w.0, omega (arith, h, w.1), w.2)
stopped_up g reserved size k a b s _ h w = w

abbrev one_more : (RunState → ℕ) → RunState × Bool → ℕ
one_more left (t, true) = suc (left t)
one_more left (t, false) = 0

-- how many quiet moves are left, counted up to a number
abbrev pub moves_left : List GraphNode → BlockContext → List ℕ → ℕ → RunState → ℕ
moves_left g context reserved zero s = 0
moves_left g context reserved (suc most) s = one_more (moves_left g context reserved most) (quiet_step g context reserved s)

more_on : (left : RunState → ℕ) (r : RunState × Bool) → r.1 ≡ true → one_more left r ≡ suc (left r.0)
more_on left (t, true) e = refl
more_on left (t, false) e = absurd (cc)

module _ (g : List GraphNode) (settings : Settings) (context : BlockContext) (reserved : List ℕ) (begun : ℕ) (p : clients.ClientStage) where
  -- what holds after a quiet move: the client goes on with the rest of the tree, or it has come to its next act
  abbrev pub IsAfterStep : ℕ → Synced → RunState → RunState × Bool → Type 0
  IsAfterStep n tree s (s', true) = IsRunning g settings.size context.ticket.index n s' × (s'.stage ≡ s.stage) × (progress_through settings context.ticket reserved begun p tree s ≡ progress_through settings context.ticket reserved begun p (walk g n s'.position) s')
  IsAfterStep n tree s (s', false) = IsStopped g reserved settings.size context.ticket.index (suc n) s' s'.stage × (progress_through settings context.ticket reserved begun p tree s ≡ progress_at g reserved begun context.ticket.index s')

  -- what is known of a client before a move m, within n nodes after it
  pub record IsBeforeMove (n : ℕ) (s : RunState) (m : Move) : Type 0 where
    pub whole : IsRunning g settings.size context.ticket.index (suc n) s
    pub is : move g s.position ≡ m
    pub next : EachNext (Within g n) m
    pub sound : IsSoundSynced (holding s.holdings) (tree_of_move (walk g n) s.position.locals m)
    pub fits : MakesAtMost (trace_at s.traces context.ticket.index).room (tree_of_move (walk g n) s.position.locals m)
    pub counted : EachNext (λ t. length g ≤ length t.counts) m
    pub eight : IsAmongEight m
    pub stands : s.stage ≡ stages.Runs
    pub tree : walk g limit s.position ≡ tree_of_move (walk g n) s.position.locals m
    pub dynamic : settings.dynamic ≡ context.dynamic

  -- the client stays, and its next act is the move's
  pub stays_here : (n : ℕ) (s : RunState) (m : Move) → IsBeforeMove n s m → IsLoud m
      → IsStopped g reserved settings.size context.ticket.index (suc n) s s.stage
      × (progress_after (trace_at s.traces context.ticket.index).events (stop_at (client_with begun p s.holdings) (runs (tree_of_move (walk g n) s.position.locals m)))
      ≡ progress_at g reserved begun context.ticket.index s)
  stays_here n s m w loud = (
    subst (IsStopped g reserved settings.size context.ticket.index (suc n) s) (sym w.stands) (suc n, omega arith, w.whole, subst IsLoud (sym w.is) loud),
    λ i. record {
      client = client_with begun (stage_by (sym w.stands i) reserved (sym w.tree i) s.position.locals) s.holdings;
      trace = append-nil (trace_at s.traces context.ticket.index).events i;
    },
  )

  goes_case : (n : ℕ) (s : RunState) (t : Spot) → IsBeforeMove n s (Goes t) → IsAfterStep n (walk g n t) s (go_to s t, true)
  goes_case n s t w = (
    moved_in_block g context.ticket.index (holding s.holdings) (holding s.holdings) (λ h c. IsOpen settings.size c) (λ h c. IsOpen settings.size c) s s.stage (suc n) n t w.whole
        (omega (arith, w.whole.few)) w.next w.counted w.sound w.fits,
    refl,
    refl,
  )

  ends_case : (n : ℕ) (s : RunState) → IsBeforeMove n s Ends → IsAfterStep n (Done s.position.locals) s (end_block reserved s)
  ends_case n s w = by_list reserved
    where
      by_list : (hs : List ℕ) → IsStopped g hs settings.size context.ticket.index (suc n) (end_block hs s).0 (end_block hs s).0.stage
          × (progress_after (trace_at s.traces context.ticket.index).events (clients.end_block settings context.ticket hs (client_with begun p s.holdings) hs s.position.locals) ≡ progress_at g hs begun context.ticket.index (end_block hs s).0)
      by_list [] = (record { held = w.whole.held; chunks = w.whole.chunks; opened = w.whole.opened }, λ i. record { client = client_with begun (clients.between s.position.locals) s.holdings; trace = append-nil (trace_at s.traces context.ticket.index).events i })
      by_list (h ∷ hs) = ((record { held = w.whole.held; chunks = w.whole.chunks; opened = w.whole.opened }, omega arith), λ i. record { client = client_with begun (clients.leaves h hs s.position.locals) s.holdings; trace = append-nil (trace_at s.traces context.ticket.index).events i })

  syncs_case : (n : ℕ) (s : RunState) (h : ℕ) (t : Spot) → IsBeforeMove n s (Syncs h t) → IsAfterStep n (Sync h (walk g n t)) s (sync context.dynamic h t s)
  syncs_case n s h t w = by_test (context.dynamic && is_some (holding_at s.holdings h)) refl
    where
      tr : List Event
      tr = (trace_at s.traces context.ticket.index).events

      c : Client
      c = client_with begun p s.holdings

      by_test : (b : Bool) → (context.dynamic && is_some (holding_at s.holdings h)) ≡ b
          → IsAfterStep n (Sync h (walk g n t)) s (if b then (go_to s t, true) else (s, false))
      by_test true e = (
        moved_in_block g context.ticket.index (holding s.holdings) (holding s.holdings) (λ h c. IsOpen settings.size c) (λ h c. IsOpen settings.size c) s s.stage (suc n) n t w.whole
            (omega (arith, w.whole.few)) w.next w.counted
            (subst (λ f. IsSoundSynced f (walk g n t)) (put_same (holding s.holdings) h true (and_cases context.dynamic (is_some (holding_at s.holdings h)) e).1) w.sound)
            w.fits,
        refl,
        ap (λ (b : Bool). progress_after tr (if b then settle settings context.ticket reserved (walk g n t) c else stop_at c (runs (Sync h (walk g n t)))))
            (ap (λ (d : Bool). d && is_some (holding_at s.holdings h)) w.dynamic ∙ e),
      )
      by_test false e =
          let here = stays_here n s (Syncs h t) w tt in (
            here.0,
            ap (λ (b : Bool). progress_after tr (if b then settle settings context.ticket reserved (walk g n t) c else stop_at c (runs (Sync h (walk g n t)))))
                (ap (λ (d : Bool). d && is_some (holding_at s.holdings h)) w.dynamic ∙ e) ∙ here.1,
          )

  calls_case : (n : ℕ) (s : RunState) (r : Request) (t : Spot) → IsBeforeMove n s (Calls r t) → IsAfterStep n (Call r (walk g n t)) s (call context.ticket.index r t s)
  calls_case n s r t w = by_holdings (holding_at s.holdings r.object) (chunk_at s.holdings r.object) refl refl
    where
      k : ℕ
      k = context.ticket.index

      tr : List Event
      tr = (trace_at s.traces k).events

      go : Client → Settlement
      go m = settle settings context.ticket reserved (walk g n t) m

      c : Client
      c = client_with begun p s.holdings

      does : Option HeldState → Option (Batch Request) → Settlement
      does x b = clients.call settings context.ticket reserved c r (walk g n t) go x (items_of b)

      by_holdings : (x : Option HeldState) (b : Option (Batch Request)) → holding_at s.holdings r.object ≡ x → chunk_at s.holdings r.object ≡ b
          → IsAfterStep n (Call r (walk g n t)) s (call_by k r t s x b)
      by_holdings None (Some b) e f = by_full (length items == b.capacity) refl
        where
          items : List Request
          items = b.items ++ r ∷ []

          more : Batch Request
          more = batch items b.capacity

          holdings : HoldingsState
          holdings = with_chunk s.holdings r.object (Some more)

          inside : r.object < length s.holdings.chunks
          inside = omega (arith, w.eight, w.whole.chunks)

          open_b : IsOpen settings.size (Some b)
          open_b = subst (IsOpen settings.size) f (w.whole.opened r.object)

          ts : List TraceState
          ts = noted_at s.traces k (command_event r)

          row : trace_at ts k ≡ with_last_event (trace_at s.traces k) (command_event r)
          row = get_or-set_same s.traces k (with_last_event (trace_at s.traces k) (command_event r)) (trace_state [] 0) w.whole.row

          sound : IsSoundSynced (holding s.holdings) (walk g n t)
          sound = subst (λ q. IsSoundSynced q (walk g n t)) (put_same (holding s.holdings) r.object false (ap (λ (y : Option HeldState). is_some y) e)) w.sound

          fits : MakesAtMost (trace_at ts k).room (walk g n t)
          fits = subst (λ (y : TraceState). MakesAtMost y.room (walk g n t)) (sym row) w.fits.1

          new : Bool → RunState
          new d = record { position = t; holdings = holdings; traces = ts; stage = if d then stages.Full r.object else s.stage }

          after : (ℕ → Option (List Request)) → Client
          after chunk = record { begun = begun; stage = p; held = holding_at s.holdings; chunk = chunk }

          ends : Client → Bool → Settlement
          ends m d = if d then stop_at m (full r.object (walk g n t)) else go m

          begins : (d : Bool) → (length items == b.capacity) ≡ d → progress_through settings context.ticket reserved begun p (Call r (walk g n t)) s ≡ progress_after (trace_at ts k).events (ends (client_with begun p holdings) d)
          begins d i_full =
              (λ i. progress_after tr (does (e i) (f i)))
              ∙ ap (λ z. progress_after tr (with_event (command_event r) (ends (after (put (λ h. items_of (chunk_at s.holdings h)) r.object (Some items))) (length items == z)))) (sym open_b.0)
              ∙ ap (λ d. progress_after tr (with_event (command_event r) (ends (after (put (λ h. items_of (chunk_at s.holdings h)) r.object (Some items))) d))) i_full
              ∙ ap (λ q. progress_after tr (with_event (command_event r) (ends (after q) d))) (sym (items_put s.holdings r.object (Some more) inside))
              ∙ noted_on tr (command_event r) (ends (client_with begun p holdings) d) (trace_at ts k) (ap (λ (y : TraceState). y.events) row)

          in_block : (IsChunk : ℕ → Option (Batch Request) → Type 0) (d : Bool) → ((h : ℕ) → IsChunk h (chunk_at holdings h))
              → IsInBlock g k n (holding s.holdings) IsChunk (new d)
          in_block IsChunk d opened = record {
            few = omega (arith, w.whole.few);
            within = w.next;
            counted = w.counted;
            sound = sound;
            fits = fits;
            row = omega (arith, w.whole.row, length-set s.traces k (with_last_event (trace_at s.traces k) (command_event r)));
            last = empty_after_note s.traces k (command_event r) w.whole.last;
            held = w.whole.held;
            chunks = length-set s.holdings.chunks r.object (Some more) ∙ w.whole.chunks;
            opened = opened;
          }

          by_full : (d : Bool) → (length items == b.capacity) ≡ d → IsAfterStep n (Call r (walk g n t)) s (new d, not d)
          by_full true i_full = (
            (
              n,
              omega arith,
              record {
                handler = w.eight;
                in_block = in_block (λ j c. IsSized settings.size c × ((r.object == j) ≡ false → IsOpen settings.size c)) true
                    (chunk_each (λ j c. IsSized settings.size c × ((r.object == j) ≡ false → IsOpen settings.size c)) s.holdings r.object (Some more) inside
                    (open_b.0, λ no. absurd (let yes = eqb_self r.object in cc))
                    (λ j other. (sized_of settings.size (chunk_at s.holdings j) (w.whole.opened j), λ no. w.whole.opened j)));
              },
            ),
            begins true i_full
                ∙ (λ i. record {
                  client = client_with begun (full r.object (sym (walk_up g n limit t (omega (arith, w.whole.few)) w.next) i)) holdings;
                  trace = append-nil (trace_at ts k).events i;
                }),
          )
          by_full false i_full = (
            in_block (λ j c. IsOpen settings.size c) false
                (chunk_each (λ j c. IsOpen settings.size c) s.holdings r.object (Some more) inside
                (open_b.0, below (length items) b.capacity settings.size i_full open_b.0 (omega (arith, length-append b.items (r ∷ []), open_b.1))) (λ j other. w.whole.opened j)),
            refl,
            begins false i_full,
          )
      by_holdings _ _ e f =
          let here = stays_here n s (Calls r t) w tt in (here.0, (λ i. progress_after tr (does (e i) (f i))) ∙ here.1)

  queries_case : (n : ℕ) (s : RunState) (r : Request) (t : ℤ → Spot) → IsBeforeMove n s (Queries r t)
      → IsAfterStep n (Query r (λ v. walk g n (t v))) s (query context.ticket r t s)
  queries_case n s r t w = by_held (holding_at s.holdings r.object) refl
    where
      k : ℕ
      k = context.ticket.index

      tr : List Event
      tr = (trace_at s.traces k).events

      after : (ℕ → Option HeldState) → Client
      after held = record { begun = begun; stage = p; held = held; chunk = λ h. items_of (chunk_at s.holdings h) }

      by_held : (x : Option HeldState) → holding_at s.holdings r.object ≡ x → IsAfterStep n (Query r (λ v. walk g n (t v))) s (query_by context.ticket r t s x)
      by_held None e = absurd (let no : is_some (holding_at s.holdings r.object) ≡ false = ap (λ (y : Option HeldState). is_some y) e in let yes = w.sound.0 in cc)
      by_held (Some x) e =
          let o : HeldState × Option ℤ = run_one x context.ticket r in
          let put_in : r.object < length s.holdings.held = omega (arith, w.eight, w.whole.held) in
          let holdings : HoldingsState = with_held s.holdings r.object (Some o.0) in
          let row : trace_at (noted_at s.traces k (event r o.1)) k ≡ with_last_event (trace_at s.traces k) (event r o.1) =
          get_or-set_same s.traces k (with_last_event (trace_at s.traces k) (event r o.1)) (trace_state [] 0) w.whole.row in
          let same : holding holdings ≡ holding s.holdings =
          holding_put s.holdings r.object (Some o.0) put_in ∙ put_same (holding s.holdings) r.object true (ap (λ (y : Option HeldState). is_some y) e) in (
            record {
              few = omega (arith, w.whole.few);
              within = w.next (value_of o.1);
              counted = w.counted (value_of o.1);
              sound = subst (λ f. IsSoundSynced f (walk g n (t (value_of o.1)))) (sym same) (w.sound.1 (value_of o.1));
              fits = subst (λ (y : TraceState). MakesAtMost y.room (walk g n (t (value_of o.1)))) (sym row) (w.fits.1 (value_of o.1));
              row = omega (arith, w.whole.row, length-set s.traces k (with_last_event (trace_at s.traces k) (event r o.1)));
              last = empty_after_note s.traces k (event r o.1) w.whole.last;
              held = length-set s.holdings.held r.object (Some o.0) ∙ w.whole.held;
              chunks = w.whole.chunks;
              opened = w.whole.opened;
            },
            refl,
            ap (λ (y : Option HeldState). progress_after tr (clients.query settings context.ticket reserved (client_with begun p s.holdings) r (λ v. walk g n (t v)) (λ v m. settle settings context.ticket reserved (walk g n (t v)) m) y)) e
                ∙ (λ i. progress_after tr (with_event (event r o.1) (settle settings context.ticket reserved (walk g n (t (value_of o.1))) (after (sym (held_put s.holdings r.object (Some o.0) put_in) i)))))
                ∙ noted_on tr (event r o.1) (settle settings context.ticket reserved (walk g n (t (value_of o.1))) (client_with begun p holdings)) (trace_at (noted_at s.traces k (event r o.1)) k) (ap (λ (y : TraceState). y.events) row),
          )

  by_move : (n : ℕ) (s : RunState) (m : Move) → IsBeforeMove n s m → IsAfterStep n (tree_of_move (walk g n) s.position.locals m) s (step_by context reserved m s)
  by_move n s Ends w = ends_case n s w
  by_move n s (Goes t) w = goes_case n s t w
  by_move n s (Calls r t) w = calls_case n s r t w
  by_move n s (Syncs h t) w = syncs_case n s h t w
  by_move n s (Queries r t) w = queries_case n s r t w

  pub ready : (n : ℕ) (s : RunState) → IsGraph g → settings.dynamic ≡ context.dynamic → s.stage ≡ stages.Runs → IsRunning g settings.size context.ticket.index (suc n) s
      → IsBeforeMove n s (move g s.position)
  ready n s ok dynamic stands w = record {
    whole = w;
    is = refl;
    next = w.within.1;
    sound = w.sound;
    fits = w.fits;
    counted = enough_counts (length g) (length s.position.counts) (move g s.position) w.counted (counts_kept g s.position);
    eight = among_eight g s.position ok w.within.0;
    stands = stands;
    tree = walk_up g (suc n) limit s.position w.few w.within;
    dynamic = dynamic;
  }

  pub quiet : (n : ℕ) (s : RunState) → IsGraph g → settings.dynamic ≡ context.dynamic → s.stage ≡ stages.Runs → IsRunning g settings.size context.ticket.index (suc n) s
      → IsAfterStep n (walk g (suc n) s.position) s (quiet_step g context reserved s)
  quiet n s ok dynamic stands w = by_move n s (move g s.position) (ready n s ok dynamic stands w)

  leaves_on : (n : ℕ) (tree : Synced) (s : RunState) (r : RunState × Bool) → r.1 ≡ true → IsAfterStep n tree s r → IsAfterStep n tree s (r.0, true)
  leaves_on n tree s (t, true) e w = w
  leaves_on n tree s (t, false) e w = absurd (cc)

  leaves_off : (n : ℕ) (tree : Synced) (s : RunState) (r : RunState × Bool) → r.1 ≡ false → IsAfterStep n tree s r → IsAfterStep n tree s (r.0, false)
  leaves_off n tree s (t, true) e w = absurd (cc)
  leaves_off n tree s (t, false) e w = w

  -- the client went on from s to t
  pub record HasGoneOn (m : ℕ) (s t : RunState) : Type 0 where
    pub stands : t.stage ≡ stages.Runs
    pub left : ℕ
    pub fewer : left ≤ m
    pub rows : KeepsRows context.ticket.index s.traces t.traces
    pub counts : length t.position.counts ≡ length s.position.counts
    pub running : IsRunning g settings.size context.ticket.index left t
    pub same : progress_through settings context.ticket reserved begun p (walk g m s.position) s ≡ progress_through settings context.ticket reserved begun p (walk g left t.position) t

  pub goes_on : (m : ℕ) (s t : RunState) → IsGraph g → settings.dynamic ≡ context.dynamic → s.stage ≡ stages.Runs → IsRunning g settings.size context.ticket.index m s
      → t ≡ (quiet_step g context reserved s).0 → (quiet_step g context reserved s).1 ≡ true → HasGoneOn m s t
  goes_on zero s t ok dynamic stands w new on = absurd w.within
  goes_on (suc m) s t ok dynamic stands w new on =
      let done = leaves_on m (walk g (suc m) s.position) s (quiet_step g context reserved s) on (quiet m s ok dynamic stands w) in
      subst (λ u. HasGoneOn (suc m) s u) (sym new) (record { stands = done.1 ∙ stands; left = m; fewer = omega arith; rows = rows_kept g context reserved s; counts = all_counts g context reserved s; running = done.0; same = done.2 })

  same_after : (m most : ℕ) (tree : Synced) (s : RunState) (r : RunState × Bool) → IsAfterStep m tree s r
      → ((t : RunState) → t.stage ≡ s.stage → IsRunning g settings.size context.ticket.index m t → moves_left g context reserved most t ≡ moves_left g context reserved m t)
      → one_more (moves_left g context reserved most) r ≡ one_more (moves_left g context reserved m) r
  same_after m most tree s (t, true) w next = ap suc (next t w.1 w.0)
  same_after m most tree s (t, false) w next = refl

  -- counted up to any number that is large enough, there are as many moves left
  moves_same : (m most : ℕ) (s : RunState) → IsGraph g → settings.dynamic ≡ context.dynamic → s.stage ≡ stages.Runs → IsRunning g settings.size context.ticket.index m s
      → m ≤ most → moves_left g context reserved most s ≡ moves_left g context reserved m s
  moves_same zero most s ok dynamic stands w few = absurd w.within
  moves_same (suc m) zero s ok dynamic stands w few = absurd (omega (arith, few))
  moves_same (suc m) (suc most) s ok dynamic stands w few =
      same_after m most (walk g (suc m) s.position) s (quiet_step g context reserved s) (quiet m s ok dynamic stands w)
      (λ t stays on. moves_same m most t ok dynamic (stays ∙ stands) on (omega (arith, few)))

  -- after a step that goes on there is one move less
  pub moves_fall : (m : ℕ) (s t : RunState) → IsGraph g → settings.dynamic ≡ context.dynamic → s.stage ≡ stages.Runs → IsRunning g settings.size context.ticket.index m s
      → t ≡ (quiet_step g context reserved s).0 → (quiet_step g context reserved s).1 ≡ true → moves_left g context reserved limit t < moves_left g context reserved limit s
  moves_fall zero s t ok dynamic stands w new on = absurd w.within
  moves_fall (suc m) s t ok dynamic stands w new on =
      let u = (quiet_step g context reserved s).0 in
      let done = leaves_on m (walk g (suc m) s.position) s (quiet_step g context reserved s) on (quiet m s ok dynamic stands w) in
      let before = moves_same (suc m) limit s ok dynamic stands w w.few ∙ more_on (moves_left g context reserved m) (quiet_step g context reserved s) on in
      let after = ap (moves_left g context reserved limit) new ∙ moves_same m limit u ok dynamic (done.1 ∙ stands) done.0 (omega (arith, w.few)) in
      omega (arith, before, after)

  pub stops : (m : ℕ) (s t : RunState) → IsGraph g → settings.dynamic ≡ context.dynamic → s.stage ≡ stages.Runs → IsRunning g settings.size context.ticket.index m s
      → t ≡ (quiet_step g context reserved s).0 → (quiet_step g context reserved s).1 ≡ false → HasSettled g settings context.ticket reserved begun p m s t
  stops zero s t ok dynamic stands w new off = absurd w.within
  stops (suc m) s t ok dynamic stands w new off =
      let done = leaves_off m (walk g (suc m) s.position) s (quiet_step g context reserved s) off (quiet m s ok dynamic stands w) in
      subst (HasSettled g settings context.ticket reserved begun p (suc m) s) (sym new) (record { stopped = done.0; rows = rows_kept g context reserved s; counts = all_counts g context reserved s; same = done.1 })

-- where it stopped it may stay until its next act
pub standing_of : (b : BlockCode) (size k less most : ℕ) (s : RunState) (stage : Stage) → less ≤ most → IsStopped b.graph b.reserved size k less s stage
    → IsStanding b size k most s stage
standing_of b size k less most s stages.Runs h w = stopped_up b.graph b.reserved size k less most s stages.Runs h w
standing_of b size k less most s (stages.Full x) h w = stopped_up b.graph b.reserved size k less most s (stages.Full x) h w
standing_of b size k less most s (stages.Awaits x) h w = absurd w
standing_of b size k less most s _ h w = w

room_again : (size h j : ℕ) (c : Option (Batch Request)) → ((h == j) ≡ false → IsOpen size c) → (h ≡ j → c ≡ None) → IsOpen size c
room_again size h j c others gone =
    ⊎_elim (λ (is : h ≡ j). subst (IsOpen size) (sym (gone is)) tt) (λ (other : (h == j) ≡ false). others other) (num_cases h j)

-- once the full chunk went, the client may go on
pub full_running : (g : List GraphNode) (size k n h : ℕ) (s : RunState) → chunk_at s.holdings h ≡ None → IsFull g size k n h s → IsRunning g size k n s
full_running g size k n h s gone w =
    held_in_block g k (holding s.holdings) (holding s.holdings) (λ j c. IsSized size c × ((h == j) ≡ false → IsOpen size c)) (λ j c. IsOpen size c) s s.stage n
    s.holdings w.in_block w.in_block.sound w.in_block.held w.in_block.chunks
    (λ j. room_again size h j (chunk_at s.holdings j) (w.in_block.opened j).1 (λ is. subst (λ m. chunk_at s.holdings m ≡ None) is gone))

-- a client that goes on from here, with a stage that lets it
pub resumes : (b : BlockCode) (settings : Settings) (ticket : Ticket) (begun n most : ℕ) (old new : RunState) (stage : Stage) → old.stage ≡ stage → n ≤ most
    → ((m : Client) (rest : Synced) → resume settings ticket b.reserved m (stage_by stage b.reserved rest old.position.locals) ≡ settle settings ticket b.reserved rest m)
    → IsRunning b.graph settings.size ticket.index n old
    → HasSettled b.graph settings ticket b.reserved begun (stage_of b.graph b.reserved old) n old new → HasSent b settings ticket begun most outgoings.Value old new
resumes b settings ticket begun n most old new stage at few on w done = record {
  standing = standing_of b settings.size ticket.index n most new new.stage few done.stopped;
  rows = done.rows;
  counts = done.counts;
  same =
      let tr = (trace_at old.traces ticket.index).events in
      let rest = walk b.graph limit old.position in
      let m = client_of_run b.graph b.reserved begun old in
      (λ i. progress_after tr (resume settings ticket b.reserved m (stage_by (at i) b.reserved rest old.position.locals)))
      ∙ ap (progress_after tr) (on m rest)
      ∙ ap (λ tree. progress_after tr (settle settings ticket b.reserved tree m)) (walk_up b.graph n limit old.position w.few w.within)
      ∙ done.same;
}

-- its stage does not matter to its quiet moves
pub restaged : (g : List GraphNode) (size k n : ℕ) (s : RunState) (stage : Stage) → IsRunning g size k n s
    → IsRunning g size k n (record s { stage = stage })
restaged g size k n s stage w =
    held_in_block g k (holding s.holdings) (holding s.holdings) (λ h c. IsOpen size c) (λ h c. IsOpen size c) s stage n s.holdings w w.sound w.held w.chunks w.opened

pub settled_at : (g q : List GraphNode) (reserved list : List ℕ) (settings : Settings) (ticket : Ticket) (begun : ℕ) (p : clients.ClientStage) (n : ℕ) (s new : RunState) (stage : Stage)
    → g ≡ q → reserved ≡ list
    → HasSettled g settings ticket reserved begun p n (record s { stage = stage }) new
    → HasSettled q settings ticket list begun p n s new
settled_at g q reserved list settings ticket begun p n s new stage e f w =
    subst (λ x. HasSettled q settings ticket x begun p n s new) f
    (
    subst (λ x. HasSettled x settings ticket reserved begun p n s new) e
    (record { stopped = w.stopped; rows = w.rows; counts = w.counts; same = w.same })
    )
