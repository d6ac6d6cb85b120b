-- The next act of a client, by what its run keeps: what the act carries, what is left, and what the contract of `act`
-- says of both.
use Rattle.std.specs.Prelude.{◌≡◌, ◌<◌, ℕ, Option, Some, None}
use Rattle.qs_objects.specs.audit.Journals.{HeldState}
use Rattle.qs_objects.specs.declared.Request.{Request}
use Rattle.qs_graph.specs.audit.Walk.{Move, Calls, Syncs}
use Rattle.qs_syncset.specs.audit.Codes.{BlockCode}
use Rattle.qs_chunk.specs.audit.Batch.{Batch}
use Rattle.qs_chunk.specs.declared.parcel.Parcel.{Parcel}
use Rattle.qs_chunk.specs.declared.parcel.Parcel.TheVariants as parcels
use Rattle.qs_client.specs.audit.rules.Client.{Settings, act_of}
use Rattle.qs_client.specs.run.Holdings.{HoldingsState, holding_at, chunk_at, with_held, with_chunk}
use Rattle.qs_client.specs.run.ClientOfRun.{client_of_run}
use Rattle.qs_client.specs.run.BetweenActs.{IsOutgoingAt, IsStanding}
use Rattle.qs_client.specs.audit.rules.Outgoings.{without_act, outgoing_of}
use Rattle.qs_client.specs.declared.rules.act.Act.{Act}
use Rattle.qs_client.specs.declared.rules.act.Act.TheVariants.{Send, NeedChunk, Finished}
use Rattle.qs_client.specs.run.RunState.{RunState}
use Rattle.qs_client.specs.declared.run.stage.Stage.{Stage}
use Rattle.qs_client.specs.declared.run.stage.Stage.TheVariants as stages
use Rattle.qs_client.specs.declared.rules.act.Act.TheVariants as acts

-- what goes to a handler first: a held object goes home; else an open chunk goes
abbrev pub first_parcel : Option HeldState → Option (Batch Request) → Option Parcel
first_parcel (Some x) c = Some (parcels.Home x)
first_parcel None (Some b) = Some (parcels.Work b)
first_parcel None None = None

-- a parcel is sent to handler h, where there is one; else this act is next
abbrev pub send_or : ℕ → Option Parcel → Act → Act
send_or h (Some parcel) other = Send h parcel
send_or h None other = other

abbrev pub clear_by : ℕ → Option HeldState → Option (Batch Request) → Act → Act
clear_by h x c other = send_or h (first_parcel x c) other

abbrev pub clear : HoldingsState → ℕ → Act → Act
clear s h other = clear_by h (holding_at s h) (chunk_at s h) other

-- the holdings without what went
abbrev pub without_by : HoldingsState → ℕ → Option HeldState → HoldingsState
without_by s h (Some x) = with_held s h None
without_by s h None = with_chunk (with_held s h None) h None

abbrev pub without : HoldingsState → ℕ → HoldingsState
without s h = without_by s h (holding_at s h)

-- the act at a node, and the holdings after it
abbrev pub act_by : HoldingsState → Move → Act
act_by s (Calls r t) = clear s r.object (NeedChunk r.object)
act_by s (Syncs h t) = clear s h (Send h parcels.Sync)
act_by s m = Finished

abbrev pub holdings_by : HoldingsState → Move → HoldingsState
holdings_by s (Calls r t) = without s r.object
holdings_by s (Syncs h t) = without s h
holdings_by s m = s

-- a full chunk goes
abbrev pub send_full : ℕ → Option (Batch Request) → Act
send_full h (Some b) = Send h (parcels.Work b)
send_full h None = Finished

-- a run with these holdings
abbrev pub with_holdings : RunState → HoldingsState → RunState
with_holdings s holdings = record s { holdings = holdings }

-- a client within a block is in one of so many
abbrev pub IsInside : Stage → ℕ → ℕ → Type 0
IsInside stages.Between k blocks = Unit {0}
IsInside stage k blocks = k < blocks

-- a run as its next act comes: without what the act carries, and else as it was
pub record HasActed (b : BlockCode) (settings : Settings) (blocks k begun most : ℕ) (given : Act)
    (old new : RunState) : Type 0 where
  pub act : given ≡ act_of settings blocks (client_of_run b.graph b.reserved begun old)
  pub rest : client_of_run b.graph b.reserved begun new ≡ without_act (client_of_run b.graph b.reserved begun old) given
  pub position : new.position ≡ old.position
  pub traces : new.traces ≡ old.traces
  pub stage : new.stage ≡ old.stage
  pub standing : IsStanding b settings.size k most new new.stage
  pub gone : IsOutgoingAt b.graph (outgoing_of given) new new.stage

-- a run whose client has this to do next
pub record Wants (b : BlockCode) (settings : Settings) (blocks k begun most : ℕ) (s : RunState)
    (wanted : Act) : Type 0 where
  pub standing : IsStanding b settings.size k most s s.stage
  pub act : act_of settings blocks (client_of_run b.graph b.reserved begun s) ≡ wanted

-- an act that sends nothing
abbrev pub SendsNothing : Act → Type 0
SendsNothing (acts.Send h p) = ⊥
SendsNothing act = Unit {0}
