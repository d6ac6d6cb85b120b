-- A handler's turns that were worked out by hand: an account of 100, of which a block asks a deposit of 5 and the
-- balance.
use Rattle.std.specs.Prelude.{◌≡◌, ℕ, List, [], ◌∷◌, Option, Some, None, ℤ, pos}
use Rattle.qs_objects.specs.audit.Act.{account}
use Rattle.qs_objects.specs.audit.Journals.{HeldState}
use Rattle.qs_objects.specs.declared.Op.{Op}
use Rattle.qs_objects.specs.declared.Op.TheVariants.{Deposit, Withdraw, Balance}
use Rattle.qs_objects.specs.declared.Request.{Request}
use Rattle.qs_objects.specs.declared.held.Entry.{Entry}
use Rattle.qs_objects.specs.declared.held.Next.TheVariants as nexts
use Rattle.qs_objects.specs.declared.held.Ticket.{Ticket}
use Rattle.qs_chunk.specs.audit.Batch.{batch}
use Rattle.qs_chunk.specs.declared.parcel.Parcel.{Parcel}
use Rattle.qs_chunk.specs.declared.parcel.Parcel.TheVariants.{Work, Sync, Home, End}
use Rattle.qs_handler.specs.audit.Handler.{free, serves, spares, gives, away, closed, act_of, gave, accept_next, accept_parcel}
use Rattle.qs_handler.specs.declared.mind.Act.TheVariants as acts

abbrev pub request : Op → List ℤ → Request
request op args = record { object = 0; op = op; args = args }

-- client 1's first block
abbrev pub ticket : Ticket
ticket = record { client = 1; index = 0 }

abbrev pub entry_of : Op → List ℤ → Option ℤ → Entry
entry_of op args reply = record { ticket = ticket; request = request op args; reply = reply }

-- an account with this balance, so many refused commands, and room for this many entries
abbrev pub account_held : ℕ → ℤ → ℤ → List Entry → HeldState
account_held room balance refused journal =
    record { object = record { content = account balance; refused = refused }; journal = journal; room = room }

abbrev pub five : List ℤ
five = pos 5 ∷ []

abbrev pub deposit : Parcel
deposit = Work (batch (request Deposit five ∷ []) 8)

abbrev pub deposit_entry : Entry
deposit_entry = entry_of Deposit five None

abbrev pub balance_entry : Entry
balance_entry = entry_of Balance [] (Some (pos 105))

-- the object before the block, once its chunk ran, and as it comes home
abbrev pub start : HeldState
start = account_held 2 (pos 100) (pos 0) []

abbrev pub middle : HeldState
middle = account_held 2 (pos 105) (pos 0) (deposit_entry ∷ [])

abbrev pub end : HeldState
end = account_held 2 (pos 105) (pos 0) (deposit_entry ∷ balance_entry ∷ [])

pub record OneBlock : Type 0 where
  pub begins : act_of (free start) ≡ acts.TakeTicket
  pub serves_it : accept_next (free start) (nexts.Ticket ticket) ≡ Some (serves ticket start)
  pub asks_the_lane : act_of (serves ticket start) ≡ acts.TakeParcel 1
  pub runs : accept_parcel (serves ticket start) deposit ≡ Some (spares ticket middle 8)
  pub spares_the_chunk : act_of (spares ticket middle 8) ≡ acts.Spare 1 (batch [] 8)
  pub serves_on : gave (spares ticket middle 8) ≡ serves ticket middle
  pub is_asked : accept_parcel (serves ticket middle) Sync ≡ Some (gives ticket middle)
  pub gives_it : act_of (gives ticket middle) ≡ acts.Give 1 middle
  pub is_without : gave (gives ticket middle) ≡ away ticket
  pub waits : act_of (away ticket) ≡ acts.TakeParcel 1
  pub comes_home : accept_parcel (away ticket) (Home end) ≡ Some (serves ticket end)
  pub ends : accept_parcel (serves ticket end) End ≡ Some (free end)
  pub closes : accept_next (free end) nexts.Closed ≡ Some (closed end)
  pub is_over : act_of (closed end) ≡ acts.Closed

-- 120 can't be withdrawn from 100, but from 100 and 50
pub record OrderOfRequests : Type 0 where
  pub first_to_last :
      accept_parcel (serves ticket (account_held 3 (pos 100) (pos 0) []))
      (Work (batch (request Withdraw (pos 120 ∷ []) ∷ request Deposit (pos 50 ∷ []) ∷ request Withdraw (pos 120 ∷ [])
      ∷ []) 3))
      ≡ Some (spares ticket (account_held 3 (pos 30) (pos 1)
      (entry_of Withdraw (pos 120 ∷ []) None ∷ entry_of Deposit (pos 50 ∷ []) None
      ∷ entry_of Withdraw (pos 120 ∷ []) None ∷ [])) 3)
  pub nothing_to_run : accept_parcel (serves ticket start) (Work (batch [] 8)) ≡ Some (spares ticket start 8)
  pub no_room :
      accept_parcel (serves ticket (account_held 1 (pos 100) (pos 0) [])) (Work (batch (request Deposit five
      ∷ request Deposit five ∷ []) 8))
      ≡ Some (spares ticket (account_held 1 (pos 105) (pos 0) (deposit_entry ∷ [])) 8)

-- what can't come
pub record Misplaced : Type 0 where
  pub home_at_home : accept_parcel (serves ticket start) (Home end) ≡ None
  pub work_while_away : accept_parcel (away ticket) deposit ≡ None
  pub sync_while_away : accept_parcel (away ticket) Sync ≡ None
  pub end_while_away : accept_parcel (away ticket) End ≡ None
  pub parcel_for_nobody : accept_parcel (free start) End ≡ None
  pub ticket_while_serving : accept_next (serves ticket start) (nexts.Ticket ticket) ≡ None
  pub ticket_while_away : accept_next (away ticket) nexts.Closed ≡ None

pub record HandlerExamples : Type 0 where
  pub one_block : OneBlock
  pub order : OrderOfRequests
  pub misplaced : Misplaced
