-- What an act of a client gives out, and what the client does once that was sent.
use Rattle.std.specs.Prelude.{ℕ, List, None}
use Rattle.qs_objects.specs.declared.held.Ticket.{Ticket}
use Rattle.qs_chunk.specs.declared.parcel.Parcel.TheVariants as parcels
use Rattle.qs_client.specs.audit.rules.Client.{Client, Settings, Settlement, ClientStage, settle, stop_at, set_held, set_chunk, after_sync, after_end, runs, full}
use Rattle.qs_client.specs.declared.rules.act.Act.{Act}
use Rattle.qs_client.specs.declared.rules.act.Act.TheVariants as acts
use Rattle.qs_client.specs.declared.rules.outgoing.Outgoing.{Outgoing}
use Rattle.qs_client.specs.declared.rules.outgoing.Outgoing.TheVariants as outgoings

-- how many Syncs went out
abbrev pub count_sync : Outgoing → ℕ
count_sync (outgoings.Sync h) = 1
count_sync outgoing = 0

-- what an act gives out, as far as something is left to be done once that was sent
abbrev pub outgoing_of : Act → Outgoing
outgoing_of (acts.Send h (parcels.Home x)) = outgoings.Value
outgoing_of (acts.Send h (parcels.Work c)) = outgoings.Value
outgoing_of (acts.Send h parcels.Sync) = outgoings.Sync h
outgoing_of (acts.Send h parcels.End) = outgoings.End
outgoing_of act = outgoings.Nothing

-- a client without what an act carries
abbrev pub without_act : Client → Act → Client
without_act m (acts.Send h (parcels.Home x)) = set_held m h None
without_act m (acts.Send h (parcels.Work c)) = set_chunk m h None
without_act m act = m

module _ (settings : Settings) (ticket : Ticket) (reserved : List ℕ) where
  -- a client goes on, once the object or the chunk that was in its way has gone
  abbrev pub resume : Client → ClientStage → Settlement
  resume m (runs rest) = settle settings ticket reserved rest m
  resume m (full h rest) = settle settings ticket reserved rest m
  resume m p = stop_at m p

  -- what a client does once its last act was sent
  abbrev pub after_send : Outgoing → Client → Settlement
  after_send outgoings.Nothing m = stop_at m m.stage
  after_send outgoings.Value m = resume m m.stage
  after_send (outgoings.Sync h) m = after_sync settings ticket reserved m m.stage
  after_send outgoings.End m = after_end settings ticket reserved m m.stage
