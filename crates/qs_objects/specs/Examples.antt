-- What objects do in a few cases, worked out by hand.
use Rattle.std.specs.Prelude.{◌≡◌, List, [], ◌∷◌, map, replicate, Option, Some, None, ℕ, ℤ, pos, negsuc}
use Rattle.qs_objects.specs.audit.Act.{State, Content, account, buffer, grid, act}
use Rattle.qs_objects.specs.audit.Objects.{starts, fresh}
use Rattle.qs_objects.specs.audit.Journals.{HeldState, run_one, replay, IsHonest}
use Rattle.qs_objects.specs.declared.Op.{Op}
use Rattle.qs_objects.specs.declared.Op.TheVariants.{Deposit, Withdraw, Balance, Refused, Put, DropFirst, TakeFirst, First, Size, SetCell, AddCell, Fill, GetCell, RowSum}
use Rattle.qs_objects.specs.declared.object.Kind.TheVariants as kinds
use Rattle.qs_objects.specs.declared.Request.{Request}
use Rattle.qs_objects.specs.declared.held.Ticket.{Ticket}
use Rattle.qs_objects.specs.declared.held.Entry.{Entry}
use Rattle.qs_objects.specs.declared.held.Event.{Event}

-- an operation, its arguments, and the reply that it must have
pub record ExpectedAct : Type 0 where
  pub op : Op
  pub args : List ℤ
  pub reply : Option ℤ

-- an operation that must have no reply
abbrev pub does : Op → List ℤ → ExpectedAct
does op args = record { op = op; args = args; reply = None }

-- an operation that must have this reply
abbrev pub asks : Op → List ℤ → ℤ → ExpectedAct
asks op args z = record { op = op; args = args; reply = Some z }

-- the state after all operations, and their replies
abbrev pub results_of : State → List ExpectedAct → State × List (Option ℤ)
results_of s [] = (s, [])
results_of s (l ∷ ls) = let o = act s l.op l.args in let rest = results_of o.0 ls in (rest.0, o.1 ∷ rest.1)

-- from these contents the lines leave those, and this many refused commands
abbrev pub Leads : Content → List ExpectedAct → Content → ℕ → Type 0
Leads c ls end refused =
    results_of (fresh c) ls ≡ (record { content = end; refused = pos refused }, map (λ l. l.reply) ls)

abbrev pub greatest : ℤ
greatest = pos 9223372036854775807

abbrev pub least : ℤ
least = negsuc 9223372036854775807

-- minus one
abbrev pub minus : ℤ
minus = negsuc 0

abbrev pub one : ℤ → List ℤ
one z = z ∷ []

abbrev pub two : ℤ → ℤ → List ℤ
two y z = y ∷ z ∷ []

abbrev pub three : ℤ → ℤ → ℤ → List ℤ
three x y z = x ∷ y ∷ z ∷ []

pub record AccountExamples : Type 0 where
  pub deposited :
      Leads (account (pos 100))
      (does Deposit (one (pos 5))
      ∷ asks Balance [] (pos 105) ∷ [])
      (account (pos 105)) 0
  pub overdrawn :
      Leads (account (pos 100))
      (does Withdraw (one (pos 120))
      ∷ does Withdraw (one (pos 80))
      ∷ asks Refused [] (pos 1) ∷ [])
      (account (pos 20)) 1
  pub emptied :
      Leads (account (pos 7))
      (does Withdraw (one (pos 7))
      ∷ does Withdraw (one (pos 1)) ∷ [])
      (account (pos 0)) 1
  pub negative :
      Leads (account (pos 7))
      (does Deposit (one minus)
      ∷ does Withdraw (one minus) ∷ [])
      (account (pos 7)) 2
  pub up_to_the_top :
      Leads (account (pos 999999999999999))
      (does Deposit (one (pos 1))
      ∷ does Deposit (one (pos 1))
      ∷ does Deposit (one greatest) ∷ [])
      (account (pos 1000000000000000)) 2
  pub misfits :
      Leads (account (pos 7))
      (does Size []
      ∷ does Put (one (pos 1))
      ∷ does Deposit []
      ∷ does Balance (one (pos 1)) ∷ [])
      (account (pos 7)) 0

pub record BufferExamples : Type 0 where
  pub full_then_empty :
      Leads (buffer 1 [])
      (does Put (one (pos 1))
      ∷ does Put (one (pos 2))
      ∷ asks TakeFirst [] (pos 1)
      ∷ does DropFirst []
      ∷ asks TakeFirst [] (pos 0)
      ∷ asks Refused [] (pos 2) ∷ [])
      (buffer 1 []) 2
  pub first_in_first_out :
      Leads (buffer 3 [])
      (does Put (one (pos 1))
      ∷ does Put (one (pos 2))
      ∷ does Put (one (pos 3))
      ∷ asks Size [] (pos 3)
      ∷ does DropFirst []
      ∷ asks First [] (pos 2)
      ∷ asks TakeFirst [] (pos 2) ∷ [])
      (buffer 3 (one (pos 3))) 0
  pub nothing_there :
      Leads (buffer 2 [])
      (asks First [] (pos 0)
      ∷ asks Size [] (pos 0) ∷ [])
      (buffer 2 []) 0

pub record GridExamples : Type 0 where
  pub outside :
      Leads (grid 3 (replicate 2 (replicate 3 (pos 0))))
      (does SetCell (three (pos 2) (pos 0) (pos 9))
      ∷ does SetCell (three (pos 0) (pos 3) (pos 9))
      ∷ does AddCell (three minus (pos 0) (pos 9))
      ∷ asks GetCell (two (pos 5) (pos 5)) (pos 0)
      ∷ asks RowSum (one (pos 2)) (pos 0)
      ∷ asks RowSum (one minus) (pos 0) ∷ [])
      (grid 3 (replicate 2 (replicate 3 (pos 0)))) 3
  pub cells :
      Leads (grid 3 (replicate 2 (replicate 3 (pos 0))))
      (does SetCell (three (pos 1) (pos 2) (pos 4))
      ∷ does AddCell (three (pos 1) (pos 0) (pos 5))
      ∷ asks GetCell (two (pos 1) (pos 2)) (pos 4)
      ∷ asks RowSum (one (pos 1)) (pos 9) ∷ [])
      (grid 3 (three (pos 0) (pos 0) (pos 0) ∷ three (pos 5) (pos 0) (pos 4) ∷ [])) 0
  pub filled :
      Leads (grid 1 (one (pos 0) ∷ one (pos 0) ∷ []))
      (does Fill (one (negsuc 2))
      ∷ asks RowSum (one (pos 1)) (negsuc 2) ∷ [])
      (grid 1 (one (negsuc 2) ∷ one (negsuc 2) ∷ [])) 0
  pub cell_clamped :
      Leads (grid 2 (two greatest least ∷ []))
      (does AddCell (three (pos 0) (pos 0) (pos 1))
      ∷ does AddCell (three (pos 0) (pos 1) minus)
      ∷ does AddCell (three (pos 0) (pos 1) (pos 1)) ∷ [])
      (grid 2 (two greatest (negsuc 9223372036854775806) ∷ [])) 0
  pub row_clamped_once :
      Leads (grid 3 (three greatest greatest least ∷ []))
      (asks RowSum (one (pos 0)) (pos 9223372036854775806) ∷ [])
      (grid 3 (three greatest greatest least ∷ [])) 0
  pub row_clamped :
      Leads (grid 3 (three least least (pos 5) ∷ three greatest (pos 1) (pos 0) ∷ []))
      (asks RowSum (one (pos 0)) least
      ∷ asks RowSum (one (pos 1)) greatest ∷ [])
      (grid 3 (three least least (pos 5) ∷ three greatest (pos 1) (pos 0) ∷ [])) 0

-- the first and the last numbers of each kind, and their neighbours
pub record StartExamples : Type 0 where
  pub debt : starts (kinds.Account minus) ≡ None
  pub poor : starts (kinds.Account (pos 0)) ≡ Some (fresh (account (pos 0)))
  pub rich : starts (kinds.Account (pos 1000000000000000)) ≡ Some (fresh (account (pos 1000000000000000)))
  pub too_rich : starts (kinds.Account (pos 1000000000000001)) ≡ None
  pub no_place : starts (kinds.Buffer (pos 0)) ≡ None
  pub one_place : starts (kinds.Buffer (pos 1)) ≡ Some (fresh (buffer 1 []))
  pub all_places : starts (kinds.Buffer (pos 1024)) ≡ Some (fresh (buffer 1024 []))
  pub too_many_places : starts (kinds.Buffer (pos 1025)) ≡ None
  pub no_rows : starts (kinds.Grid (pos 0) (pos 1)) ≡ None
  pub no_columns : starts (kinds.Grid (pos 1) (pos 0)) ≡ None
  pub one_cell : starts (kinds.Grid (pos 1) (pos 1)) ≡ Some (fresh (grid 1 (one (pos 0) ∷ [])))
  pub all_cells : starts (kinds.Grid (pos 16) (pos 16)) ≡ Some (fresh (grid 16 (replicate 16 (replicate 16 (pos 0)))))
  pub too_many_rows : starts (kinds.Grid (pos 17) (pos 1)) ≡ None
  pub too_many_columns : starts (kinds.Grid (pos 1) (pos 17)) ≡ None

-- an empty buffer with this many refused commands
abbrev pub counting : ℤ → State
counting z = record { content = buffer 1 []; refused = z }

pub record CounterExamples : Type 0 where
  pub reaches_the_top : act (counting (pos 9223372036854775806)) DropFirst [] ≡ (counting greatest, None)
  pub stops_at_the_top : act (counting greatest) DropFirst [] ≡ (counting greatest, None)

abbrev pub request : Op → List ℤ → Request
request op args = record { object = 0; op = op; args = args }

abbrev pub ticket : Ticket
ticket = record { client = 3; index = 7 }

abbrev pub entry : Request → Option ℤ → Entry
entry r reply = record { ticket = ticket; request = r; reply = reply }

-- an account with its journal
abbrev pub account_held : ℕ → ℤ → List Entry → HeldState
account_held room b j = record { object = fresh (account b); journal = j; room = room }

abbrev pub balance_entry : Entry
balance_entry = entry (request Balance []) (Some (pos 1))

-- a value is put, and a value is taken
abbrev pub put_take : ℤ → ℤ → List Event
put_take y z =
    record { request = request Put (one y); reply = None }
    ∷ record { request = request TakeFirst []; reply = Some z } ∷ []

pub record JournalExamples : Type 0 where
  pub answered : run_one (account_held 1 (pos 1) []) ticket (request Balance [])
      ≡ (account_held 1 (pos 1) (balance_entry ∷ []), Some (pos 1))
  pub noted :
      run_one (account_held 2 (pos 1) (balance_entry ∷ [])) ticket (request Deposit (one (pos 5)))
      ≡ (account_held 2 (pos 6) (balance_entry ∷ entry (request Deposit (one (pos 5))) None ∷ []), None)
  pub no_room : run_one (account_held 1 (pos 1) (balance_entry ∷ [])) ticket (request Balance [])
      ≡ (account_held 1 (pos 1) (balance_entry ∷ []), None)
  pub replayed : replay (fresh (buffer 1 (one (pos 4)))) (put_take (pos 5) (pos 4)) ≡ counting (pos 1)
  pub honest : IsHonest (fresh (buffer 1 [])) (put_take (pos 5) (pos 5))
  pub dishonest : ¬ IsHonest (fresh (buffer 1 [])) (put_take (pos 5) (pos 4))

pub record Examples : Type 0 where
  pub accounts : AccountExamples
  pub buffers : BufferExamples
  pub grids : GridExamples
  pub starts : StartExamples
  pub counters : CounterExamples
  pub journals : JournalExamples
