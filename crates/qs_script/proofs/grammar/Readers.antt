-- Each reader of the language does one of the three with the tokens so far: it refuses one of them, has read a whole,
-- or has begun and can go on to a whole. There is a line for each of them, by the readers that it is made of; bodies go
-- by induction on the levels that are left.
use Rattle.std.proofs.Common.{◌≡◌, ℕ, zero, suc, ◌≤◌, inl, inr, List, [], ◌∷◌, ◌++◌, length, refl, arith, Some, None, Ok, neg_ℤ, pos}
use Rattle.qs_script.specs.Types.{Token, Atom, Variable, Number, Operator, Plain, Binary, Account, Buffer, Grid, Formal}
use Rattle.qs_script.specs.declared.tokens.token.Token.TheVariants as t
use Rattle.qs_script.specs.declared.tree.tree.Operator.TheVariants as o
use Rattle.qs_script.specs.declared.tree.tree.Relation.TheVariants as r
use Rattle.qs_script.specs.declared.tree.tree.KindWord.TheVariants as kind
use Rattle.qs_script.specs.audit.tree.Tree.{Stmts, end, command, query, assign, again, leave}
use Rattle.qs_script.specs.audit.tree.Limits.{most_levels}
use Rattle.qs_script.specs.grammar.Reading.{Read, ◌>>=◌, due, after, run, name_at, number_at, open_brace_at, close_brace_at, open_paren_at, close_paren_at, comma_at, semicolon_at, negative_at, atom_at, further_at, more_loop, first_arg, args_at, call_at, operator_at, relation_at, expr_with, expr_at, test_of, test_at, ended_at, query_at, assign_at, assigned_at, command_at, named_at, braced_at, other_at, choice_of, choice_at, repeat_at, stmt_at, stmt_in, body_loop, names_loop, block_of, block_at, separate_at, blocks_loop, kind_at, object_of, client_of, object_at, own_blocks_at, formal_of, kind_word_at, formal_at, further_formal_at, formals_at, further_name_at, given_at, template_of, started_of, template_blocks_at, template_called_at, template_at, started_with_at, started_at, client_called_at, client_at, item_at, end_at, items_loop}
use Rattle.qs_script.specs.tree.Tree.{call_of}
use Rattle.qs_script.proofs.grammar.Prefixes.{Status, refused, whole, begun, Any, left_of, Careful, Element, First, stuck, then_by, took, element, by_first, by_token, starts, said, joined, put_careful, Due, IsTaken, due_then, due_element, Stop, IsSettled, run_careful, list_status, list_short, list_careful, after_first}

-- single tokens
open_paren : Due open_paren_at
open_paren = record { token = t.OpenParen; here = λ ts. refl; nothing = refl; each = at } where
  at : (u : Token) → IsTaken open_paren_at u
  at t.OpenParen = inl (λ ts. refl)
  at _ = inr (λ ts. refl)

comma : Due comma_at
comma = record { token = t.Comma; here = λ ts. refl; nothing = refl; each = at } where
  at : (u : Token) → IsTaken comma_at u
  at t.Comma = inl (λ ts. refl)
  at _ = inr (λ ts. refl)

semicolon : Due semicolon_at
semicolon = record { token = t.Semicolon; here = λ ts. refl; nothing = refl; each = at } where
  at : (u : Token) → IsTaken semicolon_at u
  at t.Semicolon = inl (λ ts. refl)
  at _ = inr (λ ts. refl)

open_brace : Due (λ ts. due ts (open_brace_at ts))
open_brace = record { token = t.OpenBrace; here = λ ts. refl; nothing = refl; each = at } where
  at : (u : Token) → IsTaken (λ ts. due ts (open_brace_at ts)) u
  at t.OpenBrace = inl (λ ts. refl)
  at _ = inr (λ ts. refl)

names_stop : Stop Any open_brace_at
names_stop = record { word = t.OpenBrace ∷ []; ends = λ tail e. refl; nothing = λ rest h. cc; each = at } where
  at : (u : Token) → IsSettled open_brace_at u
  at t.OpenBrace = inl (λ ts. refl)
  at _ = inr (λ ts. refl)

brace_stop : Stop Any close_brace_at
brace_stop = record { word = t.CloseBrace ∷ []; ends = λ tail e. refl; nothing = λ rest h. cc; each = at } where
  at : (u : Token) → IsSettled close_brace_at u
  at t.CloseBrace = inl (λ ts. refl)
  at _ = inr (λ ts. refl)

paren_stop : Stop Any close_paren_at
paren_stop = record { word = t.CloseParen ∷ []; ends = λ tail e. refl; nothing = λ rest h. cc; each = at } where
  at : (u : Token) → IsSettled close_paren_at u
  at t.CloseParen = inl (λ ts. refl)
  at _ = inr (λ ts. refl)

-- names, numbers and values
name_first : (u : Token) → First name_at u
name_first (t.Name n) = took n (λ ts. refl)
name_first _ = stuck (λ ts. refl)

name : Careful name_at
name = by_token name_at refl name_first (t.Name [] ∷ []) [] (λ tail. refl)

number : Careful number_at
number = by_token number_at refl first (t.Number 0 ∷ []) 0 (λ tail. refl) where
  first : (u : Token) → First number_at u
  first (t.Number n) = took n (λ ts. refl)
  first _ = stuck (λ ts. refl)

negative : Careful (λ ts. negative_at (number_at ts))
negative = put_careful negative_at (λ n. Number (neg_ℤ (pos n))) (λ left. refl) (λ x. refl) number_at number

atom : Careful atom_at
atom = by_token atom_at refl first (t.Number 0 ∷ []) (Number (pos 0)) (λ tail. refl) where
  first : (u : Token) → First atom_at u
  first (t.Name n) = took (Variable n) (λ ts. refl)
  first (t.Number n) = took (Number (pos n)) (λ ts. refl)
  first t.Minus = then_by _ negative (λ ts. refl)
  first _ = stuck (λ ts. refl)

relation : Careful relation_at
relation = by_token relation_at refl first (t.Less ∷ []) r.Less (λ tail. refl) where
  first : (u : Token) → First relation_at u
  first t.Equal = took r.Equal (λ ts. refl)
  first t.Unequal = took r.Unequal (λ ts. refl)
  first t.Less = took r.Less (λ ts. refl)
  first t.AtMost = took r.AtMost (λ ts. refl)
  first t.Greater = took r.Greater (λ ts. refl)
  first t.AtLeast = took r.AtLeast (λ ts. refl)
  first _ = stuck (λ ts. refl)

-- arguments and requests
further_element : Element further_at
further_element = due_element comma_at comma atom_at atom

first_argument : Careful first_arg
first_argument = joined atom_at (λ a. after more_loop (a.0 ∷ []) (run more_loop a.1)) atom (after_first close_paren_at further_at paren_stop further_element)

args : Careful args_at
args = by_first args_at short (t.CloseParen ∷ []) [] (λ tail. refl) status where
  short : (ts : List Token) → left_of (args_at ts) ≤ length ts
  short (t.CloseParen ∷ ts) = omega arith
  short [] = first_argument.short []
  short (u ∷ ts) = first_argument.short (u ∷ ts)

  status : (u : Token) (us : List Token) → Status Any (λ ws. args_at (u ∷ us ++ ws))
  status t.CloseParen us = whole [] us (λ ws. refl)
  status u us = first_argument.status (u ∷ us)

call : (object : List ℕ) → Careful (call_at object)
call object = joined name_at _ name λ op. due_then open_paren_at open_paren _ (joined args_at _ args λ as'. said (call_of object op as'))

-- expressions and tests
computed : (a : Atom) (op : Operator) → Careful (λ ts. atom_at ts >>= λ b. Ok (Binary a op b.0, b.1))
computed a op = joined atom_at (λ b. Ok (Binary a op b.0, b.1)) atom (λ b. said (Binary a op b))

rest_of_expr : (a : Atom) → Careful (λ ts. expr_with a ts (operator_at ts))
rest_of_expr a = by_first _ short (t.Plus ∷ t.Number 0 ∷ []) (Binary a o.Plus (Number (pos 0))) (λ tail. refl) status where
  short : (ts : List Token) → left_of (expr_with a ts (operator_at ts)) ≤ length ts
  short (t.Plus ∷ ts) = omega (arith, (computed a o.Plus).short ts)
  short (t.Minus ∷ ts) = omega (arith, (computed a o.Minus).short ts)
  short (t.Times ∷ ts) = omega (arith, (computed a o.Times).short ts)
  short _ = omega arith

  status : (u : Token) (us : List Token) → Status Any (λ ws. expr_with a (u ∷ us ++ ws) (operator_at (u ∷ us ++ ws)))
  status t.Plus us = (computed a o.Plus).status us
  status t.Minus us = (computed a o.Minus).status us
  status t.Times us = (computed a o.Times).status us
  status u us = whole (Plain a) (u ∷ us) (λ ws. refl)

expr : Careful expr_at
expr = joined atom_at (λ a. expr_with a.0 a.1 (operator_at a.1)) atom rest_of_expr

test : Careful test_at
test = joined atom_at _ atom λ a. joined relation_at _ relation λ r. joined atom_at _ atom λ b. said (test_of a r b)

-- statements without a body
ended : (s : Stmts) → Careful (ended_at s)
ended s = due_then semicolon_at semicolon (λ ts. Ok (s, ts)) (said s)

asked : (v object : List ℕ) → Careful (query_at v object)
asked v object = joined (call_at object) _ (call object) λ c. ended (query v c end)

set : (v : List ℕ) → Careful (assign_at v)
set v = joined expr_at _ expr λ e. ended (assign v e end)

-- an assignment that begins with a name, after the name
set_name : (v name : List ℕ) → Careful (λ ts. expr_with (Variable name) ts (operator_at ts) >>= λ e. ended_at (assign v e.0 end) e.1)
set_name v name = joined _ (λ e. ended_at (assign v e.0 end) e.1) (rest_of_expr (Variable name)) (λ e. ended (assign v e end))

assigned : (v : List ℕ) → Careful (assigned_at v)
assigned v = by_first (assigned_at v) short (t.Number 0 ∷ t.Plus ∷ t.Number 0 ∷ t.Semicolon ∷ []) _ (λ tail. refl) status where
  short : (ts : List Token) → left_of (assigned_at v ts) ≤ length ts
  short (t.Name m ∷ t.Dot ∷ ts) = omega (arith, (asked v m).short ts)
  short ts = (set v).short ts

  named : (m : List ℕ) (ts : List Token) → left_of (assigned_at v (t.Name m ∷ ts)) ≤ length ts
  named m (t.Dot ∷ ts) = omega (arith, (asked v m).short ts)
  named m ts = (set_name v m).short ts

  status : (u : Token) (us : List Token) → Status Any (λ ws. assigned_at v (u ∷ us ++ ws))
  status (t.Name m) [] = begun (named m) (t.Plus ∷ t.Number 0 ∷ t.Semicolon ∷ []) _ (λ tail e. refl)
  status (t.Name m) (t.Dot ∷ us) = (asked v m).status us
  status (t.Name m) (u ∷ us) = (set v).status (t.Name m ∷ u ∷ us)
  status u us = (set v).status (u ∷ us)

commanded : (object : List ℕ) → Careful (command_at object)
commanded object = joined (call_at object) _ (call object) λ c. ended (command c end)

named : (n : List ℕ) → Careful (named_at n)
named n = by_token (named_at n) refl first (t.Assign ∷ t.Number 0 ∷ t.Plus ∷ t.Number 0 ∷ t.Semicolon ∷ []) _ (λ tail. refl) where
  first : (u : Token) → First (named_at n) u
  first t.Dot = then_by _ (commanded n) (λ ts. refl)
  first t.Assign = then_by _ (assigned n) (λ ts. refl)
  first _ = stuck (λ ts. refl)

-- statements whose bodies inner reads
module _ (inner : List Token → Read Stmts) (body : Careful inner) where
  braced : Careful (braced_at inner)
  braced = due_then (λ ts. due ts (open_brace_at ts)) open_brace inner body

  second : Careful (λ ts. braced_at inner ts >>= λ b. Ok (Some b.0, b.1))
  second = joined (braced_at inner) (λ b. Ok (Some b.0, b.1)) braced (λ b. said (Some b))

  other : Careful (other_at inner)
  other = let (word, b, k) = starts _ second in by_first (other_at inner) short (t.Else ∷ word) b k status where
    short : (ts : List Token) → left_of (other_at inner ts) ≤ length ts
    short (t.Else ∷ ts) = omega (arith, second.short ts)
    short _ = omega arith

    status : (u : Token) (us : List Token) → Status Any (λ ws. other_at inner (u ∷ us ++ ws))
    status t.Else us = second.status us
    status u us = whole None (u ∷ us) (λ ws. refl)

  choice : Careful (choice_at inner)
  choice = joined test_at _ test λ c. joined (braced_at inner) _ braced λ b. joined (other_at inner) _ other λ e. said (choice_of c b e)

  repeated : Careful (repeat_at inner)
  repeated = joined number_at _ number λ n. joined (braced_at inner) _ braced λ b. said (again n b end)

  stmt : Element (stmt_at inner)
  stmt = element (stmt_at inner) refl first where
    first : (u : Token) → First (stmt_at inner) u
    first t.Leave = then_by _ (ended (leave end)) (λ ts. refl)
    first t.If = then_by _ choice (λ ts. refl)
    first t.Repeat = then_by _ repeated (λ ts. refl)
    first (t.Name n) = then_by _ (named n) (λ ts. refl)
    first _ = stuck (λ ts. refl)

stmt_element : (levels : ℕ) → Element (stmt_in levels)
stmt_element zero = record { eats = λ ts. omega arith; status = λ u us. refused u us (λ ws. refl) }
stmt_element (suc n) = stmt (run (body_loop n)) (run_careful (body_loop n) brace_stop (stmt_element n))

body : (levels : ℕ) → Careful (run (body_loop levels))
body levels = run_careful (body_loop levels) brace_stop (stmt_element levels)

-- blocks
block : Careful block_at
block =
    joined name_at _ name λ n. joined (λ ts. after names_loop (n ∷ []) (run names_loop ts)) _ (after_first open_brace_at name_at names_stop (element name_at refl name_first) n) λ ns.
    joined (run (body_loop most_levels)) _ (body most_levels) λ b. said (block_of ns b)

separate : Element separate_at
separate = element separate_at refl first where
  first : (u : Token) → First separate_at u
  first t.Separate = then_by _ block (λ ts. refl)
  first _ = stuck (λ ts. refl)

blocks : Careful (run blocks_loop)
blocks = list_careful close_brace_at separate_at brace_stop separate

-- items
kind_text : Careful kind_at
kind_text = by_token kind_at refl first (t.Account ∷ t.Number 0 ∷ []) (Account 0) (λ tail. refl) where
  first : (u : Token) → First kind_at u
  first t.Account = then_by (λ ts. number_at ts >>= λ n. Ok (Account n.0, n.1)) (joined number_at _ number λ n. said (Account n)) (λ ts. refl)
  first t.Buffer = then_by (λ ts. number_at ts >>= λ n. Ok (Buffer n.0, n.1)) (joined number_at _ number λ n. said (Buffer n)) (λ ts. refl)
  first t.Grid = then_by (λ ts. number_at ts >>= λ n. number_at n.1 >>= λ m. Ok (Grid n.0 m.0, m.1)) (joined number_at _ number λ n. joined number_at _ number λ m. said (Grid n m)) (λ ts. refl)
  first _ = stuck (λ ts. refl)

object : Careful object_at
object = joined name_at _ name λ n. joined kind_at _ kind_text λ k. said (object_of n k)

own_blocks : (n : List ℕ) → Careful (own_blocks_at n)
own_blocks n = joined (run blocks_loop) _ blocks λ bs. said (client_of n bs)

kind_word : Careful kind_word_at
kind_word = by_token kind_word_at refl first (t.Account ∷ []) kind.Account (λ tail. refl) where
  first : (u : Token) → First kind_word_at u
  first t.Account = took kind.Account (λ ts. refl)
  first t.Buffer = took kind.Buffer (λ ts. refl)
  first t.Grid = took kind.Grid (λ ts. refl)
  first _ = stuck (λ ts. refl)

formal : Careful formal_at
formal = joined kind_word_at _ kind_word λ k. joined name_at _ name λ n. said (formal_of k n)

formals : Careful formals_at
formals = joined formal_at _ formal (after_first close_paren_at further_formal_at paren_stop (due_element comma_at comma formal_at formal))

given : Careful given_at
given = joined name_at _ name (after_first close_paren_at further_name_at paren_stop (due_element comma_at comma name_at name))

template_blocks : (n : List ℕ) (fs : List Formal) → Careful (template_blocks_at n fs)
template_blocks n fs =
    due_then (λ ts. due ts (open_brace_at ts)) open_brace _ (joined (run blocks_loop) _ blocks λ bs. said (template_of n fs bs))

template : Careful template_at
template = joined name_at _ name λ n. due_then open_paren_at open_paren (template_called_at n) (joined formals_at _ formals (template_blocks n))

started : (n : List ℕ) → Careful (started_at n)
started n = joined name_at _ name λ m. due_then open_paren_at open_paren (started_with_at n m) (joined given_at _ given λ os. said (started_of n m os))

client_called : (n : List ℕ) → Careful (client_called_at n)
client_called n = let (word, i, k) = starts (own_blocks_at n) (own_blocks n) in by_token (client_called_at n) refl first (t.OpenBrace ∷ word) i k where
  first : (u : Token) → First (client_called_at n) u
  first t.OpenBrace = then_by _ (own_blocks n) (λ ts. refl)
  first t.Assign = then_by _ (started n) (λ ts. refl)
  first _ = stuck (λ ts. refl)

client : Careful client_at
client = joined name_at _ name client_called

item : Element item_at
item = element item_at refl first where
  first : (u : Token) → First item_at u
  first t.Object = then_by _ object (λ ts. refl)
  first t.Client = then_by _ client (λ ts. refl)
  first t.Template = then_by _ template (λ ts. refl)
  first _ = stuck (λ ts. refl)

-- no token after the last item
abbrev pub IsEmpty : List Token → Type 0
IsEmpty ts = ts ≡ []

end_stop : Stop IsEmpty end_at
end_stop = record { word = []; ends = λ tail e. rw e refl; nothing = λ rest h. cc; each = λ u. inr (λ ts. refl) }

pub items_status : (us : List Token) → Status IsEmpty (λ ws. run items_loop (us ++ ws))
items_status = list_status IsEmpty end_at item_at end_stop item

pub items_short : (ts : List Token) → left_of (run items_loop ts) ≤ length ts
items_short = list_short IsEmpty end_at item_at end_stop item
