-- What each call of a mind does is what the model says, and what holds of every mind is kept. The contracts of `next`,
-- `take_object` and `take_chunk` need both. The idea: the run's contracts say what became of the client and its block's
-- trace (`HasCome`, `HasActed`); the rest of the data stays, and of the invariant only the number of Syncs needs an
-- argument, as each of them took a node.
use Rattle.std.proofs.Common.{◌≡◌, inl, inr, ℕ, zero, suc, ◌+◌, ◌*◌, ◌<◌, ◌≤◌, true, false, ◌==◌, List, [], ◌++◌, length, length-set, get_or, get_or-set_same, get_or-set_other, set, refl, sym, ap, ◌∙◌, subst, arith, append-nil, ⊎_elim}
use Rattle.std.proofs.Math.ListN.{get_or-map}
use Rattle.std.proofs.lemmas.Bool.{cases_lt, ne_eqb}
use Rattle.std.proofs.lemmas.List.{ext_get_or, length-map, set-get_or}
use Rattle.qs_objects.specs.audit.Journals.{HeldState}
use Rattle.qs_objects.specs.declared.held.Event.{Event}
use Rattle.qs_objects.proofs.Choices.{apart_eqb, eqb_self, num_cases}
use Rattle.qs_graph.specs.audit.Steps.{limit}
use Rattle.qs_graph.specs.audit.Walk.{Spot, walk}
use Rattle.qs_graph.specs.Walk.{Within}
use Rattle.qs_graph.specs.audit.Nodes as places
use Rattle.qs_sync_counts.specs.audit.SyncRows.{with_sync}
use Rattle.qs_sync_counts.specs.SyncRows.{AreFew, CountsState, counts_state}
use Rattle.qs_sync_counts.specs.declared.sync_counts.SyncCount.{SyncCount}
use Rattle.qs_sync_counts.proofs.CountRows.{few_in, few_more}
use Rattle.qs_syncset.specs.audit.Codes.{BlockCode, code_at}
use Rattle.qs_syncset.specs.Codes.{IsCode}
use Rattle.qs_client.specs.run.NextActs.{HasActed, Wants, SendsNothing}
use Rattle.qs_client.specs.audit.rules.Client.{Settlement, take_object, take_chunk}
use Rattle.qs_client.specs.audit.run.BlockSizes.{longest}
use Rattle.qs_client.specs.run.BlockSizes.{room_for}
use Rattle.qs_client.specs.run.BetweenActs.{HasCome, HasGot, HasSent, HasTaken, IsOutgoingAt, IsStanding, nodes_left}
use Rattle.qs_client.specs.audit.rules.Outgoings.{count_sync, after_send, outgoing_of}
use Rattle.qs_client.specs.run.ClientOfRun.{ClientProgress, stage_by}
use Rattle.qs_client.specs.run.Running.{KeepsRows}
use Rattle.qs_objects.specs.Traces.{TraceState, empty_trace, events_of, trace_at, trace_state}
use Rattle.qs_chunk.specs.Limits.{largest_chunk}
use Rattle.qs_client.specs.declared.rules.act.Act.{Act}
use Rattle.qs_client.specs.run.RunState.{RunState}
use Rattle.qs_client.specs.declared.rules.outgoing.Outgoing.{Outgoing}
use Rattle.qs_client.specs.declared.run.stage.Stage.{Stage}
use Rattle.qs_client.proofs.run.CodeBounds.{few_blocks}
use Rattle.qs_client.proofs.run.ArrivalRefinement.{at_call, awaits_here, nothing_between}
use Rattle.qs_client.specs.declared.rules.act.Act.TheVariants as acts
use Rattle.qs_client.specs.declared.rules.outgoing.Outgoing.TheVariants as outgoings
use Rattle.qs_client.specs.declared.run.stage.Stage.TheVariants as stages
use Rattle.qs_client.specs.SoundMind.{IsSoundMind}
use Rattle.qs_client.specs.audit.ClientModel.{ClientModel, act_due, mind_after_chunk, comes_to, finish, extend, mind_after_object, hands_out, is_between, tally}
use Rattle.qs_client.specs.ClientModel.{Asks}
use Rattle.qs_client.specs.MindState.{MindState, IsMind, block_of, client_in, mind_of, settings_in}

events_at : (rows : List TraceState) (j : ℕ) → get_or (events_of rows) j [] ≡ (trace_at rows j).events
events_at rows j = get_or-map (λ (t : TraceState). t.events) rows j (trace_state [] 0)

length_events : (rows : List TraceState) → length (events_of rows) ≡ length rows
length_events rows = length-map rows (λ (t : TraceState). t.events)

-- the rows with events at the end of one
pub extend_rows : (old new : List TraceState) (k : ℕ) (es : List Event) → KeepsRows k old new
    → (trace_at old k).events ++ es ≡ (trace_at new k).events → events_of new ≡ extend (events_of old) k es
extend_rows old new k es keeps same =
    let row : List Event = get_or (events_of old) k [] ++ es in
    ext_get_or [] (events_of new) (set (events_of old) k row)
    (omega (arith, length_events new, length_events old, keeps.count, length-set (events_of old) k row))
    (λ j inside.
    ⊎_elim
    (λ (is : k ≡ j).
    events_at new j
    ∙ subst (λ m. (trace_at new m).events ≡ get_or (set (events_of old) k row) m []) is
    (sym same ∙ ap (λ (xs : List Event). xs ++ es) (sym (events_at old k))
    ∙ sym (get_or-set_same (events_of old) k row [] (omega (arith, inside, is, length_events new, length_events old, keeps.count)))))
    (λ (other : (k == j) ≡ false).
    events_at new j ∙ ap (λ (t : TraceState). t.events) (keeps.others j other) ∙ sym (events_at old j)
    ∙ sym (get_or-set_other (events_of old) k j row [] (λ e. let same : (k == k) ≡ false = subst (λ m. (k == m) ≡ false) e other in no_self k same)))
    (num_cases k j))
  where
    no_self : (k : ℕ) → (k == k) ≡ false → ⊥
    no_self k e = let yes = eqb_self k in cc

-- with no event nothing changes
pub extend_none : (ts : List (List Event)) (k : ℕ) → extend ts k [] ≡ ts
extend_none ts k = ap (set ts k) (append-nil (get_or ts k [])) ∙ set-get_or ts k []

-- these data with another run, and with nothing outgoing
abbrev pub with_run : MindState → RunState → MindState
with_run m run = record m { run = run; outgoing = outgoings.Nothing }

pub comes_mind : (m : MindState) (by : Settlement) (most : ℕ) (new : RunState)
    → HasCome (block_of m) (settings_in m) m.ticket (length m.entries) most by m.run new
    → mind_of (with_run m new) ≡ comes_to (mind_of m) by
unfolding mind_of
comes_mind m by most new w =
    let client = ap (λ (o : ClientProgress). o.client) w.same in
    let rows = extend_rows m.run.traces new.traces m.ticket.index by.events w.rows (ap (λ (o : ClientProgress). o.trace) w.same) in
    λ i. record {
      code = m.code;
      size = m.size;
      ticket = m.ticket;
      client = sym client i;
      entries = m.entries;
      traces = rows i;
      syncs = m.syncs;
      counts = m.counts.rows;
      outgoing = outgoings.Nothing;
    }

-- the part of the invariant that does not depend on where a client stands in its block
pub record IsSteady (m : MindState) : Type 0 where
  pub code : IsCode m.code
  pub size : (1 ≤ m.size) × (m.size ≤ largest_chunk)
  pub blocks : length m.entries ≤ length m.code.blocks
  pub rows : length m.run.traces ≡ length m.code.blocks
  pub counts : length m.run.position.counts ≡ longest m.code.blocks
  pub ticket : m.ticket.index + 1 ≡ length m.entries
  pub later : (k : ℕ) → length m.entries ≤ k → k < length m.code.blocks → trace_at m.run.traces k ≡ empty_trace (room_for (code_at m.code k))
  pub tallies : length m.counts.rows ≡ length m.code.blocks
  pub few_each : (k : ℕ) → AreFew (suc m.syncs) (get_or m.counts.rows k [])

pub steady : (m : MindState) → 0 < length m.entries → IsSoundMind m → IsSteady m
steady m some w = record {
  code = w.code;
  size = w.size;
  blocks = w.blocks;
  rows = w.rows;
  counts = w.counts;
  ticket = w.ticket some;
  later = w.later;
  tallies = w.tallies;
  few_each = w.few_each;
}

nothing_gone : (g : List places.GraphNode) (s : RunState) (stage : Stage) → IsOutgoingAt g outgoings.Nothing s stage
nothing_gone g s stages.Between = tt
nothing_gone g s _ = tt

pub come_sound : (m : MindState) (by : Settlement) (most : ℕ) (new : RunState) → IsSteady m
    → HasCome (block_of m) (settings_in m) m.ticket (length m.entries) most by m.run new
    → m.syncs + most ≤ length m.entries * limit → IsSoundMind (with_run m new)
come_sound m by most new s w few = record {
  code = s.code;
  size = s.size;
  blocks = s.blocks;
  rows = w.rows.count ∙ s.rows;
  counts = w.counts ∙ s.counts;
  ticket = λ some. s.ticket;
  first = λ none. absurd (omega (arith, s.ticket, none));
  left = most;
  few = few;
  tallies = s.tallies;
  few_each = s.few_each;
  standing = w.standing;
  gone = nothing_gone (block_of m).graph new new.stage;
  later = λ k past inside.
      w.rows.others k (ne_eqb m.ticket.index k (λ e. omega (arith, e, past, s.ticket))) ∙ s.later k past inside;
}

-- a block was begun where something is outgoing, or where the client does not stand between blocks
pub begun_outgoing : (m : MindState) → IsSoundMind m → (m.outgoing ≡ outgoings.Nothing → ⊥) → 0 < length m.entries
begun_outgoing m w other = elim (cases_lt 0 (length m.entries)) [ inl lt ↦ lt | inr le ↦ absurd (other (w.first (omega (arith, le))).1) ]

pub begun_inside : (m : MindState) → IsSoundMind m → (m.run.stage ≡ stages.Between → ⊥) → 0 < length m.entries
begun_inside m w other = elim (cases_lt 0 (length m.entries)) [ inl lt ↦ lt | inr le ↦ absurd (other (w.first (omega (arith, le))).0) ]

pub block_inside : (m : MindState) → IsSoundMind m → 0 < length m.entries → m.ticket.index < length m.code.blocks
block_inside m w some = omega (arith, w.ticket some, w.blocks)

few_counted : (outgoing : Outgoing) → count_sync outgoing ≤ 1
few_counted outgoings.Nothing = omega arith
few_counted _ = omega arith

-- a Sync that is counted
tallied_length : (outgoing : Outgoing) (k : ℕ) (rows : List (List SyncCount)) → length (tally outgoing k rows) ≡ length rows
tallied_length (outgoings.Sync h) k rows = length-set rows k (with_sync h (get_or rows k []))
tallied_length _ k rows = refl

tallied_few : (outgoing : Outgoing) (k n : ℕ) (rows : List (List SyncCount)) → k < length rows → ((j : ℕ) → AreFew (suc n) (get_or rows j []))
    → (j : ℕ) → AreFew (suc (n + count_sync outgoing)) (get_or (tally outgoing k rows) j [])
tallied_few (outgoings.Sync h) k n rows inside few j = ⊎_elim
    (λ (is : k ≡ j). subst (λ j. AreFew (suc (n + 1)) (get_or (set rows k more) j [])) is
    (subst (AreFew (suc (n + 1))) (sym (get_or-set_same rows k more [] inside))
    (few_in (suc (suc n)) (suc (n + 1)) more (omega arith) (few_more (suc n) h (get_or rows k []) (few k)))))
    (λ (other : (k == j) ≡ false).
    subst (AreFew (suc (n + 1))) (sym (get_or-set_other rows k j more [] (λ e. apart_eqb k j other (sym e))))
    (few_in (suc n) (suc (n + 1)) (get_or rows j []) (omega arith) (few j)))
    (num_cases k j)
  where
    more : List SyncCount
    more = with_sync h (get_or rows k [])
tallied_few _ k n rows inside few j = few_in (suc n) (suc (n + 0)) (get_or rows j []) (omega arith) (few j)

-- the counts of a block have room for one Sync more
pub counts_fit : (m : MindState) → IsSoundMind m → (k : ℕ) → AreFew 4294967295 (get_or m.counts.rows k [])
unfolding limit
counts_fit m w k =
    few_in (suc m.syncs) 4294967295 (get_or m.counts.rows k []) (omega (arith, w.few, w.blocks, few_blocks m.code w.code)) (w.few_each k)

-- the number of Syncs stays small
pub syncs_fit : (m : MindState) → IsSoundMind m → m.syncs + count_sync m.outgoing < 18446744073709551616
unfolding limit
syncs_fit m w = omega (arith, w.few, w.blocks, few_blocks m.code w.code, few_counted m.outgoing)

node_left : (b : BlockCode) (size k most h : ℕ) (s : RunState) (stage : Stage) → IsStanding b size k most s stage → IsOutgoingAt b.graph (outgoings.Sync h) s stage → 1 ≤ most
node_left b size k most h s stages.Runs w gone = some w.0 w.1 w.2.within
  where
    some : (n : ℕ) → n ≤ most → Within b.graph n s.position → 1 ≤ most
    some zero few within = absurd within
    some (suc n) few within = omega (arith, few)
node_left b size k most h s _ w gone = absurd gone

-- a Sync takes a node
pub few_after : (m : MindState) (w : IsSoundMind m) → m.syncs + count_sync m.outgoing + nodes_left m.outgoing w.left ≤ length m.entries * limit
few_after m w = by_handed m.outgoing w.gone
  where
    by_handed : (outgoing : Outgoing) → IsOutgoingAt (block_of m).graph outgoing m.run m.run.stage
        → m.syncs + count_sync outgoing + nodes_left outgoing w.left ≤ length m.entries * limit
    by_handed (outgoings.Sync h) gone =
        omega (arith, w.few, node_left (block_of m) m.size m.ticket.index w.left h m.run m.run.stage w.standing gone)
    by_handed _ gone = omega (arith, w.few)

pub sound_mind : (m : MindState) → IsSoundMind m → IsMind (mind_of m)
unfolding mind_of
sound_mind m w = record {
  code = w.code;
  size = w.size;
  entries = refl;
  blocks = w.blocks;
  traces = length_events m.run.traces ∙ w.rows;
  counts = w.tallies;
  ticket = w.ticket;
  syncs = omega (arith, w.few);
  first = λ none. ap (λ (stage : Stage). is_between (stage_by stage (block_of m).reserved (walk (block_of m).graph limit m.run.position) m.run.position.locals)) (w.first none).0;
}

-- these data with another run, and with this outgoing
abbrev pub hands_over : MindState → RunState → Outgoing → MindState
hands_over m run outgoing = record m { run = run; outgoing = outgoing }

pub wants_of : (m : MindState) (w : IsSoundMind m) (a : Act) → Asks (mind_of m) a
    → Wants (block_of m) (settings_in m) (length m.code.blocks) m.ticket.index (length m.entries) w.left m.run a
unfolding mind_of
wants_of m w a asked = record { standing = w.standing; act = asked.1 }

pub asks_nothing : (m : MindState) (a : Act) → Asks (mind_of m) a → m.outgoing ≡ outgoings.Nothing
unfolding mind_of
asks_nothing m a asked = asked.0

pub awaits_begun : (m : MindState) (w : IsSoundMind m) (h : ℕ) → Asks (mind_of m) (acts.Await h) → 0 < length m.entries
awaits_begun m w h asked =
    begun_inside m w (λ e.
    let at : m.run.stage ≡ stages.Awaits h =
    awaits_here (block_of m) (settings_in m) m.ticket (length m.code.blocks) (length m.entries) w.left m.run h (wants_of m w (acts.Await h) asked) in cc)

pub needs_begun : (m : MindState) (w : IsSoundMind m) (h : ℕ) → Asks (mind_of m) (acts.NeedChunk h) → 0 < length m.entries
needs_begun m w h asked =
    begun_inside m w (λ e.
    let at : m.run.stage ≡ stages.Runs =
    (at_call (block_of m) (settings_in m) m.ticket (length m.code.blocks) (length m.entries) w.left m.run h (wants_of m w (acts.NeedChunk h) asked)).stands in cc)

-- a mind with nothing outgoing
pub nothing_left : (m : MindState) (run : RunState) → m.outgoing ≡ outgoings.Nothing → with_run m run ≡ hands_over m run m.outgoing
nothing_left m run e = λ i. hands_over m run (sym e i)

pub object_is : (m : MindState) (most : ℕ) (x : HeldState) (new : RunState) → m.outgoing ≡ outgoings.Nothing
    → HasGot (block_of m) (settings_in m) m.ticket (length m.entries) most x m.run new → mind_of (hands_over m new m.outgoing) ≡ mind_after_object (mind_of m) x
unfolding mind_of
object_is m most x new none w =
    ap mind_of (sym (nothing_left m new none))
    ∙ comes_mind m (take_object (settings_in m) m.ticket (block_of m).reserved (client_in m) x (client_in m).stage) most new w

pub chunk_is : (m : MindState) (most h : ℕ) (new : RunState) → m.outgoing ≡ outgoings.Nothing
    → HasTaken (block_of m) (settings_in m) m.ticket (length m.entries) most h m.run new → mind_of (hands_over m new m.outgoing) ≡ mind_after_chunk (mind_of m) h
unfolding mind_of
chunk_is m most h new none w =
    ap mind_of (sym (nothing_left m new none))
    ∙ comes_mind m (take_chunk (settings_in m) m.ticket (block_of m).reserved (client_in m) h (client_in m).stage) most new w

-- what was sent is finished
abbrev pub with_syncs : MindState → ℕ → CountsState → MindState
with_syncs m syncs counts = record m { syncs = syncs; counts = counts }

-- with the Sync counted that was sent, if one was
abbrev pub tally_state : MindState → CountsState
tally_state m = counts_state (tally m.outgoing m.ticket.index m.counts.rows) m.counts.room

pub finish_is : (m : MindState) (most : ℕ) (new : RunState) → HasSent (block_of m) (settings_in m) m.ticket (length m.entries) most m.outgoing m.run new
    → mind_of (with_run (with_syncs m (m.syncs + count_sync m.outgoing) (tally_state m)) new) ≡ finish (mind_of m)
unfolding mind_of
finish_is m most new w =
    comes_mind (with_syncs m (m.syncs + count_sync m.outgoing) (tally_state m))
    (after_send (settings_in m) m.ticket (block_of m).reserved m.outgoing (client_in m)) (nodes_left m.outgoing most) new w

-- with nothing outgoing a mind stays as it is
pub finish_none : (m : MindState) → m.outgoing ≡ outgoings.Nothing → mind_of m ≡ finish (mind_of m)
unfolding mind_of
finish_none m none =
    (λ i. mind_of (hands_over m m.run (none i)))
    ∙ (λ i. record {
      code = m.code;
      size = m.size;
      ticket = m.ticket;
      client = client_in m;
      entries = m.entries;
      traces = sym (extend_none (events_of m.run.traces) m.ticket.index) i;
      syncs = (let same : m.syncs ≡ m.syncs + 0 = omega arith in same) i;
      counts = m.counts.rows;
      outgoing = outgoings.Nothing;
    })
    ∙ (λ i. finish (mind_of (hands_over m m.run (sym none i))))

pub finish_sound : (m : MindState) (new : RunState) (w : IsSoundMind m) → 0 < length m.entries
    → HasSent (block_of m) (settings_in m) m.ticket (length m.entries) w.left m.outgoing m.run new
    → IsSoundMind (with_run (with_syncs m (m.syncs + count_sync m.outgoing) (tally_state m)) new)
finish_sound m new w some sent =
    let s = steady m some w in
    come_sound (with_syncs m (m.syncs + count_sync m.outgoing) (tally_state m))
    (after_send (settings_in m) m.ticket (block_of m).reserved m.outgoing (client_in m)) (nodes_left m.outgoing w.left) new
    (record {
      code = s.code;
      size = s.size;
      blocks = s.blocks;
      rows = s.rows;
      counts = s.counts;
      ticket = s.ticket;
      later = s.later;
      tallies = tallied_length m.outgoing m.ticket.index m.counts.rows ∙ s.tallies;
      few_each = tallied_few m.outgoing m.ticket.index m.syncs m.counts.rows (omega (arith, s.ticket, s.blocks, s.tallies)) s.few_each;
    })
    sent (few_after m w)

-- the next act

pub acts_sound : (m : MindState) (w : IsSoundMind m) (given : Act) (new : RunState)
    → HasActed (block_of m) (settings_in m) (length m.code.blocks) m.ticket.index (length m.entries) w.left given m.run new
    → IsSoundMind (hands_over m new (outgoing_of given))
acts_sound m w given new a = record {
  code = w.code;
  size = w.size;
  blocks = w.blocks;
  rows = ap (λ (ts : List TraceState). length ts) a.traces ∙ w.rows;
  counts = ap (λ (p : Spot). length p.counts) a.position ∙ w.counts;
  ticket = w.ticket;
  first = λ none. (
    a.stage ∙ (w.first none).0,
    nothing_between (block_of m) (settings_in m) m.ticket (length m.code.blocks) (length m.entries) w.left m.run given (w.first none).0 a.act,
  );
  left = w.left;
  few = w.few;
  tallies = w.tallies;
  few_each = w.few_each;
  standing = a.standing;
  gone = a.gone;
  later = λ k past inside. ap (λ (ts : List TraceState). trace_at ts k) a.traces ∙ w.later k past inside;
}

pub acts_is : (m : MindState) (most : ℕ) (given : Act) (new : RunState)
    → HasActed (block_of m) (settings_in m) (length m.code.blocks) m.ticket.index (length m.entries) most given m.run new
    → mind_of (hands_over m new (outgoing_of given)) ≡ hands_out (mind_of m) given
unfolding mind_of
acts_is m most given new a = λ i. record {
  code = m.code;
  size = m.size;
  ticket = m.ticket;
  client = a.rest i;
  entries = m.entries;
  traces = events_of (a.traces i);
  syncs = m.syncs;
  counts = m.counts.rows;
  outgoing = outgoing_of given;
}

pub acts_asked : (m : MindState) (most : ℕ) (given : Act) (new : RunState)
    → HasActed (block_of m) (settings_in m) (length m.code.blocks) m.ticket.index (length m.entries) most given m.run new
    → given ≡ act_due (mind_of m)
unfolding mind_of
acts_asked m most given new a = a.act

-- a block was begun, where the client does not stand between blocks
pub begun_between : (m : MindState) → IsSoundMind m → is_between (mind_of m).client.stage ≡ false → 0 < length m.entries
unfolding mind_of
begun_between m w off =
    begun_inside m w (λ e.
    let on : is_between (client_in m).stage ≡ true =
    ap (λ t. is_between (stage_by t (block_of m).reserved (walk (block_of m).graph limit m.run.position) m.run.position.locals)) e in cc)

-- an act that sends nothing asks for something to come
pub quiet_asks : (m : ClientModel) (given : Act) → SendsNothing given → given ≡ act_due m → Asks (hands_out m given) given
quiet_asks m (acts.Send h p) quiet e = absurd quiet
quiet_asks m _ quiet e = (refl, sym e)
