-- What a block alone leaves, where objects stand in a list by their numbers.
use Rattle.std.specs.Prelude.{◌≡◌, ◌<◌, ◌≤◌, ℕ, Bool, List, length, slice_index_or}
use Rattle.qs_objects.specs.audit.Act.{State}
use Rattle.qs_program.specs.declared.code.Call.{Call}
use Rattle.qs_program.specs.audit.Statements.{Statements, end, command, query, assign, choose, again, leave}
use Rattle.qs_program.specs.audit.Values.{Locals}
use Rattle.qs_meaning.specs.audit.Serial.{no_state}
use Rattle.qs_meaning.specs.audit.Solo.{States, Ending}

-- objects by their numbers
abbrev pub states_in : List State → States
states_in ss h = slice_index_or ss h no_state

-- a request on one of n objects, with at most three numbers
pub record IsCallWithin (n : ℕ) (c : Call) : Type 0 where
  pub object : c.object < n
  pub args : length c.args ≤ 3

abbrev pub AreCallsWithin : ℕ → Statements → Type 0
AreCallsWithin n end = Unit {0}
AreCallsWithin n (command c rest) = IsCallWithin n c × AreCallsWithin n rest
AreCallsWithin n (query x c rest) = IsCallWithin n c × AreCallsWithin n rest
AreCallsWithin n (assign x e rest) = AreCallsWithin n rest
AreCallsWithin n (choose t has_else first other rest) =
    AreCallsWithin n first × AreCallsWithin n other × AreCallsWithin n rest
AreCallsWithin n (again m body rest) = AreCallsWithin n body × AreCallsWithin n rest
AreCallsWithin n (leave rest) = AreCallsWithin n rest

-- statements end so: whether a `leave` looks for its repeat, the variables, and the objects
pub record EndsWith (o : Ending) (leaves : Bool) (l : Locals) (ss : List State) : Type 0 where
  pub left : o.left ≡ leaves
  pub locals : o.locals ≡ l
  pub states : o.states ≡ states_in ss
