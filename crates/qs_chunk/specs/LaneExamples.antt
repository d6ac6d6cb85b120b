-- Lanes that were worked out by hand.
use Rattle.std.specs.Prelude.{◌≡◌, true, false, List, [], ◌∷◌, replicate, flat_map, pos}
use Rattle.qs_objects.specs.audit.Act.{account}
use Rattle.qs_objects.specs.audit.Objects.{fresh}
use Rattle.qs_objects.specs.audit.Journals.{HeldState}
use Rattle.qs_objects.specs.declared.Op.TheVariants.{Deposit}
use Rattle.qs_objects.specs.declared.Request.{Request}
use Rattle.qs_chunk.specs.audit.Batch.{Batch, batch}
use Rattle.qs_chunk.specs.audit.Lanes.{HasForm, block_parcels, is_asked}
use Rattle.qs_chunk.specs.Lanes.{IsLane, may_stand}
use Rattle.qs_chunk.specs.declared.parcel.Parcel.{Parcel}
use Rattle.qs_chunk.specs.declared.parcel.Parcel.TheVariants.{Work, Sync, Home, End}

abbrev pub deposit : Request
deposit = record { object = 0; op = Deposit; args = pos 5 ∷ [] }

-- a chunk of size 8 with one request
abbrev pub chunk : Batch Request
chunk = batch (deposit ∷ []) 8

-- an account with no journal
abbrev pub account_of_100 : HeldState
account_of_100 = record { object = fresh (account (pos 100)); journal = []; room = 2 }

-- a command and a query, as one block sends them
abbrev pub deposit_and_ask : List Parcel
deposit_and_ask = Work chunk ∷ Sync ∷ Home account_of_100 ∷ End ∷ []

-- a query, a command, a query again and two chunks; then a block without requests
abbrev pub two_blocks : List Parcel
two_blocks =
    Sync ∷ Home account_of_100 ∷ Work chunk ∷ Sync ∷ Home account_of_100 ∷ Work chunk ∷ Work chunk ∷ End ∷ End ∷ []

-- the lane's state after these parcels: whether a parcel may stand there
abbrev pub CanFollow : List Parcel → Parcel → Type 0
CanFollow ps p = may_stand (is_asked false ps) p ≡ true

abbrev pub CannotFollow : List Parcel → Parcel → Type 0
CannotFollow ps p = may_stand (is_asked false ps) p ≡ false

pub record LaneExamples : Type 0 where
  pub one_block :
      block_parcels (record { chunks = chunk ∷ []; rounds = record { home = account_of_100; chunks = [] } ∷ [] })
      ≡ deposit_and_ask
  pub more_blocks :
      flat_map block_parcels
      (record {
        chunks = [];
        rounds =
            record { home = account_of_100; chunks = chunk ∷ [] }
            ∷ record { home = account_of_100; chunks = chunk ∷ chunk ∷ [] } ∷ [];
      } ∷ record { chunks = []; rounds = [] } ∷ [])
      ≡ two_blocks
  pub a_block : IsLane 8 deposit_and_ask
  pub blocks : IsLane 8 two_blocks
  pub sixteen_ends : IsLane 8 (replicate 16 End)
  pub other_size : ¬ IsLane 7 deposit_and_ask
  pub home_first : ¬ IsLane 8 (Home account_of_100 ∷ End ∷ [])
  pub work_after_sync : ¬ IsLane 8 (Sync ∷ Work chunk ∷ [])
  pub end_while_away : ¬ IsLane 8 (Sync ∷ End ∷ [])
  pub unfinished : ¬ HasForm 8 (Work chunk ∷ [])
  pub asks_first : CanFollow [] Sync
  pub ends_first : CanFollow [] End
  pub comes_home : CanFollow (Work chunk ∷ Sync ∷ []) (Home account_of_100)
  pub sync_twice : CannotFollow (Sync ∷ []) Sync
  pub home_twice : CannotFollow (Sync ∷ Home account_of_100 ∷ []) (Home account_of_100)
  pub works_again : CanFollow (Sync ∷ Home account_of_100 ∷ []) (Work chunk)
  pub next_block : CanFollow (Sync ∷ Home account_of_100 ∷ End ∷ []) (Work chunk)
