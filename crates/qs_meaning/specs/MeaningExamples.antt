-- Programs with the replies and the states of their serial runs, computed by the definitions.
use Rattle.std.specs.Prelude.{◌≡◌, ℕ, List, [], ◌∷◌, map, true, Option, Some, None, ℤ, pos, negsuc}
use Rattle.qs_objects.specs.audit.Act.{State, Content, account, buffer, grid}
use Rattle.qs_objects.specs.declared.Op.{Op}
use Rattle.qs_objects.specs.declared.Op.TheVariants.{Deposit, Withdraw, Balance, Refused, Put, DropFirst, TakeFirst, First, SetCell, GetCell, RowSum}
use Rattle.qs_objects.specs.declared.object.Kind.{Kind}
use Rattle.qs_objects.specs.declared.object.Kind.TheVariants as kinds
use Rattle.qs_objects.specs.declared.held.Ticket.{Ticket}
use Rattle.qs_script.specs.declared.tree.tree.Operator.TheVariants.{Times}
use Rattle.qs_script.specs.declared.tree.tree.Relation.TheVariants.{Unequal}
use Rattle.qs_program.specs.declared.code.Atom.{Atom}
use Rattle.qs_program.specs.declared.code.Atom.TheVariants.{Variable, Number}
use Rattle.qs_program.specs.declared.code.Expr.TheVariants.{Binary}
use Rattle.qs_program.specs.declared.code.Call.{Call}
use Rattle.qs_program.specs.declared.program.Declared.{Declared}
use Rattle.qs_program.specs.audit.Statements.{Statements, end, command, query, assign, choose, again, leave}
use Rattle.qs_program.specs.audit.Program.{BlockShape, ClientShape, ProgramShape}
use Rattle.qs_meaning.specs.Serial.{Serial, serial}

abbrev pub n : ℕ → Atom
n z = Number (pos z)

abbrev pub call : ℕ → Op → List Atom → Call
call object op args = record { object = object; op = op; args = args }

abbrev pub balance : ℕ → Call
balance object = call object Balance []

abbrev pub declarations : List Kind → List Declared
declarations ks = map (λ k. record { name = []; kind = k }) ks

abbrev pub block : List ℕ → Statements → BlockShape
block reserved body = record { reserved = reserved; body = body }

abbrev pub client : List BlockShape → ClientShape
client blocks = record { name = []; variables = []; blocks = blocks; start = None }

abbrev pub program : List Kind → List ClientShape → ProgramShape
program ks clients = record { objects = declarations ks; clients = clients }

-- an object, and clients with one block each
abbrev pub on_one : Kind → List Statements → ProgramShape
on_one k bodies = program (k ∷ []) (map (λ body. client (block (0 ∷ []) body ∷ [])) bodies)

-- a block's ticket: its client and its place among the client's blocks
abbrev pub ticket : ℕ → ℕ → Ticket
ticket c index = record { client = c; index = index }

abbrev pub only : List Ticket
only = ticket 0 0 ∷ []

abbrev pub hundred : Kind
hundred = kinds.Account (pos 100)

abbrev pub some : ℕ → Option ℤ
some z = Some (pos z)

-- the replies at each place of the order
abbrev pub replies : Serial → List (List (Option ℤ))
replies s = map (λ p. map (λ e. e.reply) p.trace) s.places

abbrev pub left_with : Content → ℕ → State
left_with c refused = record { content = c; refused = pos refused }

-- with its blocks in this order, a program has these replies, and object 0 is left so
pub record Shows (p : ProgramShape) (order : List Ticket) (answers : List (List (Option ℤ)))
    (first : State) : Type 0 where
  pub answered : replies (serial p order) ≡ answers
  pub state : (serial p order).states 0 ≡ first

-- a deposit, then the balance
abbrev pub deposit_of_5 : ProgramShape
deposit_of_5 = on_one hundred (command (call 0 Deposit (n 5 ∷ [])) (query 0 (balance 0) end) ∷ [])

-- each client withdraws, then asks for the balance
abbrev pub withdrawals : ProgramShape
withdrawals =
    on_one hundred
    (command (call 0 Withdraw (n 120 ∷ [])) (query 0 (balance 0) end)
    ∷ command (call 0 Withdraw (n 80 ∷ [])) (query 0 (balance 0) end) ∷ [])

-- the variable is 0 at first, so the other list runs
abbrev pub test_fails : ProgramShape
test_fails =
    on_one hundred
    (choose (record { left = Variable 0; relation = Unequal; right = n 0 }) true
    (command (call 0 Deposit (n 1 ∷ [])) end) (query 0 (balance 0) end)
    (query 1 (balance 0) end) ∷ [])

abbrev pub full_buffer : ProgramShape
full_buffer =
    on_one (kinds.Buffer (pos 1))
    (command (call 0 Put (n 1 ∷ [])) (command (call 0 Put (n 2 ∷ [])) (query 0 (call 0 TakeFirst [])
    (command (call 0 DropFirst []) (query 1 (call 0 TakeFirst []) (query 2 (call 0 Refused []) end))))) ∷ [])

abbrev pub large : Atom
large = n 999999999999999999

abbrev pub cells : ProgramShape
cells =
    on_one (kinds.Grid (pos 2) (pos 3))
    (command (call 0 SetCell (n 2 ∷ n 0 ∷ n 9 ∷ [])) (query 0 (call 0 GetCell (n 5 ∷ n 5 ∷ []))
    (command (call 0 SetCell (n 0 ∷ n 0 ∷ large ∷ [])) (command (call 0 SetCell (n 0 ∷ n 1 ∷ large ∷ []))
    (query 1 (call 0 RowSum (n 0 ∷ [])) end)))) ∷ [])

-- the deposit after the `leave` is never reached
abbrev pub left_at_once : ProgramShape
left_at_once =
    on_one hundred
    (query 0 (balance 0) (again 2 (leave (command (call 0 Deposit (n 1 ∷ [])) end)) (query 1 (balance 0) end)) ∷ [])

abbrev pub products : ProgramShape
products =
    on_one (kinds.Buffer (pos 2))
    (assign 0 (Binary large Times large) (command (call 0 Put (Variable 0 ∷ []))
    (assign 1 (Binary (Number (negsuc 999999999999999998)) Times large) (command (call 0 Put (Variable 1 ∷ []))
    (query 2 (call 0 First []) end)))) ∷ [])

-- one client moves 30 between two accounts; the other deposits 1 in each, in two blocks
abbrev pub transfer : ProgramShape
transfer =
    program (hundred ∷ hundred ∷ [])
    (client (block (0 ∷ 1 ∷ [])
    (command (call 0 Withdraw (n 30 ∷ [])) (command (call 1 Deposit (n 30
    ∷ [])) (query 0 (balance 0) (query 1 (balance 1) end)))) ∷ [])
    ∷ client (block (0 ∷ []) (command (call 0 Deposit (n 1 ∷ [])) end)
    ∷ block (1 ∷ []) (command (call 1 Deposit (n 1 ∷ [])) (query 0 (balance 1) end)) ∷ []) ∷ [])

-- whichever the order, the accounts end with 71 and 131
pub record Transfers (order : List Ticket) (answers : List (List (Option ℤ))) : Type 0 where
  pub answered : replies (serial transfer order) ≡ answers
  pub giver : (serial transfer order).states 0 ≡ left_with (account (pos 71)) 0
  pub taker : (serial transfer order).states 1 ≡ left_with (account (pos 131)) 0

pub record MeaningExamples : Type 0 where
  pub deposit : Shows deposit_of_5 only ((None ∷ some 105 ∷ []) ∷ []) (left_with (account (pos 105)) 0)
  pub greater_first :
      Shows withdrawals (ticket 0 0 ∷ ticket 1 0 ∷ []) ((None ∷ some 100 ∷ []) ∷ (None ∷ some 20 ∷ []) ∷ [])
      (left_with (account (pos 20)) 1)
  pub smaller_first :
      Shows withdrawals (ticket 1 0 ∷ ticket 0 0 ∷ []) ((None ∷ some 20 ∷ []) ∷ (None ∷ some 20 ∷ []) ∷ [])
      (left_with (account (pos 20)) 1)
  pub other_list : Shows test_fails only ((some 100 ∷ some 100 ∷ []) ∷ []) (left_with (account (pos 100)) 0)
  pub full :
      Shows full_buffer only ((None ∷ None ∷ some 1 ∷ None ∷ some 0 ∷ some 2 ∷ []) ∷ []) (left_with (buffer 1 []) 2)
  pub row_sum :
      Shows cells only ((None ∷ some 0 ∷ None ∷ None ∷ some 1999999999999999998 ∷ []) ∷ [])
      (left_with (grid 3 ((pos 999999999999999999 ∷ pos 999999999999999999 ∷ pos 0 ∷ []) ∷ (pos 0 ∷ pos 0 ∷ pos 0 ∷ [])
      ∷ [])) 1)
  pub left : Shows left_at_once only ((some 100 ∷ some 100 ∷ []) ∷ []) (left_with (account (pos 100)) 0)
  pub clamped :
      Shows products only ((None ∷ None ∷ some 9223372036854775807 ∷ []) ∷ [])
      (left_with (buffer 2 (pos 9223372036854775807 ∷ negsuc 9223372036854775807 ∷ [])) 0)
  pub transfer_first :
      Transfers (ticket 0 0 ∷ ticket 1 0 ∷ ticket 1 1 ∷ [])
      ((None ∷ None ∷ some 70 ∷ some 130 ∷ []) ∷ (None ∷ []) ∷ (None ∷ some 131 ∷ []) ∷ [])
  pub transfer_between :
      Transfers (ticket 1 0 ∷ ticket 0 0 ∷ ticket 1 1 ∷ [])
      ((None ∷ []) ∷ (None ∷ None ∷ some 71 ∷ some 130 ∷ []) ∷ (None ∷ some 131 ∷ []) ∷ [])
  pub transfer_last :
      Transfers (ticket 1 0 ∷ ticket 1 1 ∷ ticket 0 0 ∷ [])
      ((None ∷ []) ∷ (None ∷ some 101 ∷ []) ∷ (None ∷ None ∷ some 71 ∷ some 131 ∷ []) ∷ [])
