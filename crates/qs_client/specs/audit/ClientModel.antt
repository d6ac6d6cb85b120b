-- The model of a mind: what a client has come to, and what each call of `Mind` does to it. `next` finishes the last act
-- (`finish`), answers the next (`next_act`) and gives out what it carries (`next_mind`); `begin`, `take_object` and
-- `take_chunk` are `mind_after_begin`, `mind_after_object` and `mind_after_chunk`.
use Rattle.std.specs.Prelude.{ℕ, suc, ◌&&◌, ◌||◌, nat_lt, nat_eq, ◌+◌, Bool, true, false, List, [], ◌∷◌, ◌++◌, length, map, replicate, slice_index_or, slice_set}
use Rattle.qs_objects.specs.audit.Journals.{HeldState}
use Rattle.qs_objects.specs.declared.held.Event.{Event}
use Rattle.qs_objects.specs.declared.held.Ticket.{Ticket}
use Rattle.qs_program.specs.audit.Values.{Locals}
use Rattle.qs_meaning.specs.audit.Serial.{zeros}
use Rattle.qs_graph.specs.audit.Steps.{limit}
use Rattle.qs_graph.specs.audit.Synced.{Synced}
use Rattle.qs_graph.specs.audit.Walk.{entry, walk}
use Rattle.qs_syncset.specs.audit.Codes.{BlockCode, ClientCode, code_at}
use Rattle.qs_sync_counts.specs.audit.SyncRows.{fresh_rows, with_sync}
use Rattle.qs_sync_counts.specs.declared.sync_counts.SyncCount.{SyncCount}
use Rattle.qs_client.specs.audit.rules.Client.{Client, ClientStage, Settings, Settlement, act_of, between, runs, full, awaits, leaves, begin, first_client, take_object, take_chunk}
use Rattle.qs_client.specs.audit.rules.Outgoings.{after_send, without_act, outgoing_of, count_sync}
use Rattle.qs_client.specs.declared.rules.act.Act.{Act}
use Rattle.qs_client.specs.declared.rules.outgoing.Outgoing.{Outgoing}
use Rattle.qs_client.specs.audit.run.BlockSizes.{longest}
use Rattle.qs_client.specs.declared.rules.outgoing.Outgoing.TheVariants as outgoings

-- a block as a tree with the synchronisations that are left in it, from these variables; each repeat sets its count as
-- it begins
abbrev pub tree_at : ClientCode → ℕ → Locals → Synced
tree_at code k l = walk (code_at code k).graph limit (entry l (replicate (longest code.blocks) 0))

-- a ticket's block as such a tree
abbrev pub synced_block : (ℕ → ClientCode) → Ticket → Locals → Synced
synced_block code t l = tree_at (code t.client) t.index l

-- the lists of objects that the blocks reserve
abbrev pub lists_of_code : List BlockCode → List (List ℕ)
lists_of_code blocks = map (λ (b : BlockCode). b.reserved) blocks

-- the code and the chunks' size; the ticket of the block that was begun last; the client; for each block that was begun
-- the variables at entry, and for each block the trace so far; the Syncs that were sent, all and for each block and
-- each object of its list; and what the last act gave out and was not yet confirmed as sent
pub record ClientModel : Type 0 where
  pub code : ClientCode
  pub size : ℕ
  pub ticket : Ticket
  pub client : Client
  pub entries : List Locals
  pub traces : List (List Event)
  pub syncs : ℕ
  pub counts : List (List SyncCount)
  pub outgoing : Outgoing

abbrev pub settings_of : ClientModel → Settings
settings_of m = record { dynamic = m.code.dynamic; size = m.size }

-- the handlers that the block reserves
abbrev pub reserved_by : ClientModel → List ℕ
reserved_by m = (code_at m.code m.ticket.index).reserved

-- events at the end of a block's trace
abbrev pub extend : List (List Event) → ℕ → List Event → List (List Event)
extend ts k es = slice_set ts k (slice_index_or ts k [] ++ es)

-- with the client that has settled, and with the events that entered its block's trace
abbrev pub comes_to : ClientModel → Settlement → ClientModel
comes_to m s = record m {
  client = s.client;
  traces = extend m.traces m.ticket.index s.events;
  outgoing = outgoings.Nothing;
}

-- a Sync is counted for the block and the object that it was sent for
abbrev pub tally : Outgoing → ℕ → List (List SyncCount) → List (List SyncCount)
tally (outgoings.Sync h) k rows = slice_set rows k (with_sync h (slice_index_or rows k []))
tally outgoings.Nothing k rows = rows
tally outgoings.Value k rows = rows
tally outgoings.End k rows = rows

abbrev pub count_syncs : ClientModel → ClientModel
count_syncs m = record m { syncs = m.syncs + count_sync m.outgoing; counts = tally m.outgoing m.ticket.index m.counts }

-- with the last act finished: what is left to be done once it was sent is done
abbrev pub finish : ClientModel → ClientModel
finish m = comes_to (count_syncs m) (after_send (settings_of m) m.ticket (reserved_by m) m.outgoing m.client)

-- the act that is due
abbrev pub act_due : ClientModel → Act
act_due m = act_of (settings_of m) (length m.code.blocks) m.client

abbrev pub next_act : ClientModel → Act
next_act m = act_due (finish m)

-- without what the act carries
abbrev pub hands_out : ClientModel → Act → ClientModel
hands_out m act = record m { client = without_act m.client act; outgoing = outgoing_of act }

abbrev pub next_mind : ClientModel → ClientModel
next_mind m = hands_out (finish m) (next_act m)

abbrev pub locals_at : ClientStage → Locals
locals_at (between l) = l
locals_at (runs rest) = []
locals_at (full h rest) = []
locals_at (awaits h rest) = []
locals_at (leaves h hs l) = l

abbrev pub enters : ClientModel → Ticket → Locals → ClientModel
enters m t l = record m { ticket = t; entries = m.entries ++ l ∷ [] }

-- once its next block was reserved, which begins with these variables
abbrev pub mind_after_begin_with : ClientModel → Ticket → Locals → ClientModel
mind_after_begin_with m t l =
    comes_to (enters m t l) (begin (settings_of m) t (code_at m.code t.index).reserved m.client
    (tree_at m.code t.index l))

abbrev pub mind_after_begin : ClientModel → Ticket → ClientModel
mind_after_begin m t = mind_after_begin_with m t (locals_at m.client.stage)

-- once the object came
abbrev pub mind_after_object : ClientModel → HeldState → ClientModel
mind_after_object m x = comes_to m (take_object (settings_of m) m.ticket (reserved_by m) m.client x m.client.stage)

-- once an empty chunk for h came
abbrev pub mind_after_chunk : ClientModel → ℕ → ClientModel
mind_after_chunk m h = comes_to m (take_chunk (settings_of m) m.ticket (reserved_by m) m.client h m.client.stage)

abbrev pub is_between : ClientStage → Bool
is_between (between l) = true
is_between (runs rest) = false
is_between (full h rest) = false
is_between (awaits h rest) = false
is_between (leaves h hs l) = false

-- before the first block, with all variables 0
abbrev pub fresh_mind : ClientCode → ℕ → ClientModel
fresh_mind code size = record {
  code = code;
  size = size;
  ticket = record { client = 0; index = 0 };
  client = first_client zeros;
  entries = [];
  traces = replicate (length code.blocks) [];
  syncs = 0;
  counts = fresh_rows (lists_of_code code.blocks);
  outgoing = outgoings.Nothing;
}

-- whether a client's block has ended
abbrev pub has_ended : Client → ℕ → Bool
has_ended m k = nat_lt (suc k) m.begun || (nat_eq (suc k) m.begun && is_between m.stage)
