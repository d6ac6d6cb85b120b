-- Acts of clients, computed from their definition.
use Rattle.std.specs.Prelude.{◌≡◌, ℕ, true, false, [], ◌∷◌, pos}
use Rattle.qs_objects.specs.audit.Journals.{HeldState, run_one}
use Rattle.qs_objects.specs.audit.Parts.{command_event}
use Rattle.qs_objects.specs.declared.held.Ticket.{Ticket}
use Rattle.qs_objects.specs.declared.Op.TheVariants.{Deposit, Balance}
use Rattle.qs_objects.specs.declared.Request.{Request}
use Rattle.qs_graph.specs.audit.Synced.{Synced, Done, Call, Sync, Query}
use Rattle.qs_chunk.specs.audit.Batch.{batch}
use Rattle.qs_chunk.specs.declared.parcel.Parcel.TheVariants as parcels
use Rattle.qs_client.specs.audit.rules.Client.{Client, Settings, act_of, begin, first_client, take_object, after_parcel, take_chunk}
use Rattle.qs_client.specs.declared.rules.act.Act.{Act}
use Rattle.qs_client.specs.declared.rules.act.Act.TheVariants.{Reserve, Send, Await, NeedChunk}

abbrev pub deposit : ℕ → Request
deposit h = record { object = h; op = Deposit; args = pos 1 ∷ [] }

abbrev pub balance : ℕ → Request
balance h = record { object = h; op = Balance; args = [] }

-- `separate a { a.deposit(1); }` with a of number 0
abbrev pub one_deposit : Synced
one_deposit = Call (deposit 0) (Done [])

-- `a.deposit(1); a.deposit(1);`
abbrev pub two_deposits : Synced
two_deposits = Call (deposit 0) (Call (deposit 0) (Done []))

-- `x = a.balance(); y = a.balance();`
abbrev pub two_queries : Synced
two_queries = Sync 0 (Query (balance 0) (λ v. Sync 0 (Query (balance 0) (λ w. Done []))))

abbrev pub block : ℕ → Ticket
block k = record { client = 0; index = k }

abbrev pub by_test : Settings
by_test = record { dynamic = true; size = 8 }

abbrev pub chunks_of : ℕ → Settings
chunks_of n = record { dynamic = false; size = n }

-- the client once its first block of this tree was reserved, which reserves object 0
abbrev pub begins : Settings → Synced → Client
begins s tree = (begin s (block 0) (0 ∷ []) (first_client []) tree).client

-- the client once it took an empty chunk for object 0, and once it sent what it sends next
abbrev pub takes : Settings → Client → Client
takes s m = (take_chunk s (block 0) (0 ∷ []) m 0 m.stage).client

abbrev pub sends_by : Settings → Client → Act → Client
sends_by s m (Send h p) = (after_parcel s (block 0) (0 ∷ []) m h p).client
sends_by s m act = m

abbrev pub sends : Settings → Client → Client
sends s m = sends_by s m (act_of s 2 m)

-- the client once the object came
abbrev pub gets : Settings → HeldState → Client → Client
gets s x m = (take_object s (block 0) (0 ∷ []) m x m.stage).client

-- the object after one query, and after two
abbrev pub after_one_query : HeldState → HeldState
after_one_query x = (run_one x (block 0) (balance 0)).0

abbrev pub after_two_queries : HeldState → HeldState
after_two_queries x = after_one_query (after_one_query x)

-- a command, with chunks of 8: the chunk goes at the block's end
pub record CommandActs : Type 0 where
  pub first : act_of (chunks_of 8) 2 (first_client []) ≡ Reserve
  pub second : act_of (chunks_of 8) 2 (begins (chunks_of 8) one_deposit) ≡ NeedChunk 0
  pub third : act_of (chunks_of 8) 2 (takes (chunks_of 8) (begins (chunks_of 8) one_deposit))
      ≡ Send 0 (parcels.Work (batch (deposit 0 ∷ []) 8))
  pub fourth : act_of (chunks_of 8) 2 (sends (chunks_of 8) (takes (chunks_of 8) (begins (chunks_of 8) one_deposit)))
      ≡ Send 0 parcels.End
  pub fifth : act_of (chunks_of 8) 2 (sends (chunks_of 8)
      (sends (chunks_of 8) (takes (chunks_of 8) (begins (chunks_of 8) one_deposit)))) ≡ Reserve
  pub trace : (take_chunk (chunks_of 8) (block 0) (0 ∷ []) (begins (chunks_of 8) one_deposit) 0
      (begins (chunks_of 8) one_deposit).stage).events
      ≡ command_event (deposit 0) ∷ []

-- two commands, with chunks of 1: a full chunk goes at once, and the second command takes the next one
pub record FullChunkActs : Type 0 where
  pub full : act_of (chunks_of 1) 2 (takes (chunks_of 1) (begins (chunks_of 1) two_deposits))
      ≡ Send 0 (parcels.Work (batch (deposit 0 ∷ []) 1))
  pub next : act_of (chunks_of 1) 2 (sends (chunks_of 1) (takes (chunks_of 1) (begins (chunks_of 1) two_deposits)))
      ≡ NeedChunk 0

-- two queries: without the test the object goes home before the second synchronisation, and with the test only at the
-- block's end
pub record QueryActs (x : HeldState) : Type 0 where
  pub sync : act_of (chunks_of 8) 2 (begins (chunks_of 8) two_queries) ≡ Send 0 parcels.Sync
  pub await : act_of (chunks_of 8) 2 (sends (chunks_of 8) (begins (chunks_of 8) two_queries)) ≡ Await 0
  pub home : act_of (chunks_of 8) 2 (gets (chunks_of 8) x (sends (chunks_of 8) (begins (chunks_of 8) two_queries)))
      ≡ Send 0 (parcels.Home (after_one_query x))
  pub again : act_of (chunks_of 8) 2 (sends (chunks_of 8)
      (gets (chunks_of 8) x (sends (chunks_of 8) (begins (chunks_of 8) two_queries)))) ≡ Send 0 parcels.Sync
  pub kept : act_of by_test 2 (gets by_test x (sends by_test (begins by_test two_queries)))
      ≡ Send 0 (parcels.Home (after_two_queries x))
  pub end : act_of by_test 2 (sends by_test (gets by_test x (sends by_test (begins by_test two_queries))))
      ≡ Send 0 parcels.End

pub record ClientExamples : Type 0 where
  pub command : CommandActs
  pub full_chunk : FullChunkActs
  pub query : (x : HeldState) → QueryActs x
