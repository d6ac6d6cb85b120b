-- A client between two acts: what holds of what its run keeps, and what the run keeps once what its last act left to be
-- done was done, once an object came, or once an empty chunk came. The contracts of `after_send`, `take_object` and
-- `take_chunk` say it by these.
use Rattle.std.specs.Prelude.{ℕ, ◌≡◌, ◌<◌, ◌≤◌, ◌+◌, ◌-◌, nat_lt, if◌then◌else◌, List, length, None}
use Rattle.qs_objects.specs.audit.Journals.{HeldState}
use Rattle.qs_objects.specs.declared.held.Ticket.{Ticket}
use Rattle.qs_graph.specs.audit.Nodes.{GraphNode}
use Rattle.qs_graph.specs.audit.Walk.{Move, Syncs, move}
use Rattle.qs_syncset.specs.audit.Codes.{BlockCode}
use Rattle.qs_client.specs.declared.rules.outgoing.Outgoing.{Outgoing}
use Rattle.qs_client.specs.audit.rules.Client.{Settings, Settlement, take_object, take_chunk}
use Rattle.qs_client.specs.audit.rules.Outgoings.{after_send}
use Rattle.qs_client.specs.run.Holdings.{chunk_at}
use Rattle.qs_objects.specs.Traces.{trace_at}
use Rattle.qs_client.specs.run.ClientOfRun.{client_of_run, stage_of, progress_after, progress_at}
use Rattle.qs_client.specs.run.Running.{IsAwaiting, IsOver, IsStopped, KeepsRows}
use Rattle.qs_client.specs.run.RunState.{RunState}
use Rattle.qs_client.specs.declared.run.stage.Stage.{Stage}
use Rattle.qs_client.specs.declared.rules.outgoing.Outgoing.TheVariants as outgoings
use Rattle.qs_client.specs.declared.run.stage.Stage.TheVariants as stages

-- after a Sync was sent the object is awaited
abbrev pub await_by : Move → RunState → RunState
await_by (Syncs h t) s = record s { position = t; stage = stages.Awaits h }
await_by m s = s

abbrev pub await_object : List GraphNode → RunState → RunState
await_object g s = await_by (move g s.position) s

-- after an End was sent the next handler of so many is left, or the block has ended
abbrev pub leave_next_by : ℕ → Stage → Stage
leave_next_by handlers (stages.Leaves i) = if nat_lt (i + 1) handlers then stages.Leaves (i + 1) else stages.Between
leave_next_by handlers stage = stage

abbrev pub leave_next : ℕ → RunState → RunState
leave_next handlers s = record s { stage = leave_next_by handlers s.stage }

-- what holds between two acts of a client in a block of this code, at most `most` nodes from its end
abbrev pub IsStanding : BlockCode → ℕ → ℕ → ℕ → RunState → Stage → Type 0
IsStanding b size k most s (stages.Awaits h) = (n : ℕ) × (n ≤ most) × IsAwaiting b.graph size k n h s
IsStanding b size k most s (stages.Leaves i) = IsOver b.graph size s × (i < length b.reserved)
IsStanding b size k most s stages.Between = IsOver b.graph size s
IsStanding b size k most s stages.Runs = IsStopped b.graph b.reserved size k most s stages.Runs
IsStanding b size k most s (stages.Full h) = IsStopped b.graph b.reserved size k most s (stages.Full h)

-- the client is at a synchronisation
abbrev pub IsSyncing : Move → Type 0
IsSyncing (Syncs h t) = Unit {0}
IsSyncing m = ⊥

-- what is outgoing left from here: a full chunk is no more among the holdings, and a Sync was given out at a
-- synchronisation
abbrev pub IsOutgoingAt : List GraphNode → Outgoing → RunState → Stage → Type 0
IsOutgoingAt g outgoings.Value s (stages.Full h) = chunk_at s.holdings h ≡ None
IsOutgoingAt g (outgoings.Sync h) s stages.Runs = IsSyncing (move g s.position)
IsOutgoingAt g (outgoings.Sync h) s stage = ⊥
IsOutgoingAt g outgoing s stage = Unit {0}

-- a client that has come to its next act, at most `most` nodes from its block's end, and has done just what `by` says
pub record HasCome (b : BlockCode) (settings : Settings) (ticket : Ticket) (begun most : ℕ) (by : Settlement)
    (old new : RunState) : Type 0 where
  pub standing : IsStanding b settings.size ticket.index most new new.stage
  pub rows : KeepsRows ticket.index old.traces new.traces
  pub counts : length new.position.counts ≡ length old.position.counts
  pub same : progress_after (trace_at old.traces ticket.index).events by
      ≡ progress_at b.graph b.reserved begun ticket.index new

-- how many nodes are left of so many: a Sync that was sent took one
abbrev pub nodes_left : Outgoing → ℕ → ℕ
nodes_left (outgoings.Sync h) most = most - 1
nodes_left outgoing most = most

-- a client once its last act was sent, up to its next act
abbrev pub HasSent : BlockCode → Settings → Ticket → ℕ → ℕ → Outgoing → RunState → RunState → Type 0
HasSent b settings ticket begun most outgoing old new =
    HasCome b settings ticket begun (nodes_left outgoing most)
    (after_send settings ticket b.reserved outgoing (client_of_run b.graph b.reserved begun old)) old new

-- a client once the object came that it waited for, up to its next act
abbrev pub HasGot : BlockCode → Settings → Ticket → ℕ → ℕ → HeldState → RunState → RunState → Type 0
HasGot b settings ticket begun most x old new =
    HasCome b settings ticket begun most (take_object settings ticket b.reserved
    (client_of_run b.graph b.reserved begun old) x (stage_of b.graph b.reserved old)) old new

-- a client once an empty chunk for handler h came, up to its next act
abbrev pub HasTaken : BlockCode → Settings → Ticket → ℕ → ℕ → ℕ → RunState → RunState → Type 0
HasTaken b settings ticket begun most h old new =
    HasCome b settings ticket begun most (take_chunk settings ticket b.reserved
    (client_of_run b.graph b.reserved begun old) h (stage_of b.graph b.reserved old)) old new
