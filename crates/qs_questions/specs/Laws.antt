-- What holds of the queries that a condition may ask, and of the replies.
use Rattle.std.specs.Prelude.{◌≡◌, true, List, length, IfSome, IsSome, ℤ}
use Rattle.qs_objects.specs.audit.Act.{State, act}
use Rattle.qs_objects.specs.declared.Op.{Op}
use Rattle.qs_program.specs.audit.Numbering.{Name}
use Rattle.qs_program.specs.audit.Program.{ProgramShape}
use Rattle.qs_meaning.specs.audit.Solo.{States}
use Rattle.qs_meaning.specs.StateKinds.{AreOfKind}
use Rattle.qs_questions.specs.Questions.{asked_of, only_asks}

-- a query that only asks leaves its object as it was
abbrev pub AskingChangesNothing : Type 0
AskingChangesNothing =
    (state : State) (op : Op) (args : List ℤ) → only_asks op ≡ true → (act state op args).0 ≡ state

-- where the program has the reply that a condition asks for, the object gives one, whatever it holds: no value is 0 for
-- want of a reply
abbrev pub RepliesAreThere : Type 0
RepliesAreThere =
    (p : ProgramShape) (states : States) → AreOfKind p states → (object text : Name) (args : List ℤ)
    → IfSome (asked_of p object text (length args)) (λ q. IsSome (act (states q.object) q.op args).1)
