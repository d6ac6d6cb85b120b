-- What the parser makes of a list of tokens: a tree and the tokens after it, or the token with which no reading goes
-- on.
use Rattle.std.specs.Prelude.{ℕ, zero, suc, length, List, [], ◌∷◌, ◌++◌, Option, Some, None, Result, Ok, Err, pos, neg_ℤ}
use Rattle.qs_script.specs.declared.tokens.token.Token.{Token}
use Rattle.qs_script.specs.declared.tokens.token.Token.TheVariants as t
use Rattle.qs_script.specs.declared.tree.tree.Atom.{Atom}
use Rattle.qs_script.specs.declared.tree.tree.Atom.TheVariants.{Variable, Number}
use Rattle.qs_script.specs.declared.tree.tree.Operator.{Operator}
use Rattle.qs_script.specs.declared.tree.tree.Operator.TheVariants as o
use Rattle.qs_script.specs.declared.tree.tree.Relation.{Relation}
use Rattle.qs_script.specs.declared.tree.tree.Relation.TheVariants as r
use Rattle.qs_script.specs.declared.tree.tree.Expr.{Expr}
use Rattle.qs_script.specs.declared.tree.tree.Expr.TheVariants.{Plain, Binary}
use Rattle.qs_script.specs.declared.tree.tree.Test.{Test}
use Rattle.qs_script.specs.declared.tree.tree.Call.{Call}
use Rattle.qs_script.specs.declared.tree.tree.Block.{Block}
use Rattle.qs_script.specs.declared.tree.tree.KindText.{KindText}
use Rattle.qs_script.specs.declared.tree.tree.KindText.TheVariants.{Account, Buffer, Grid}
use Rattle.qs_script.specs.declared.tree.tree.KindWord.{KindWord}
use Rattle.qs_script.specs.declared.tree.tree.KindWord.TheVariants as kind
use Rattle.qs_script.specs.declared.tree.tree.Formal.{Formal}
use Rattle.qs_script.specs.declared.tree.tree.Item.{Item}
use Rattle.qs_script.specs.declared.tree.tree.Item.TheVariants.{Object, Client, Template, Started}
use Rattle.qs_script.specs.audit.tree.Tree.{Stmts, end, command, query, assign, choose, choose_else, again, leave}
use Rattle.qs_script.specs.tree.Tree.{call_of, join_statements}
use Rattle.qs_script.specs.audit.tree.Limits.{most_levels}

-- what is read and the tokens after it; or nothing, and how many tokens are left where no reading goes on
abbrev pub Read : Type 0 → Type 0
Read A = Result (A × List Token) ℕ

infixl 10 ◌>>=◌
abbrev pub ◌>>=◌ : {A B : Type 0} → Result A ℕ → (A → Result B ℕ) → Result B ℕ
Ok x >>= f = f x
Err left >>= f = Err left

-- these statements before what is read
abbrev pub onto : Stmts → Read Stmts → Read Stmts
onto xs (Err left) = Err left
onto xs (Ok p) = Ok (join_statements xs p.0, p.1)

-- how a list is read: what no element is, how two lists make one, what ends it, and its elements as lists
pub record Loop (M : Type 0) : Type 0 where
  pub none : M
  pub join : M → M → M
  pub stop : List Token → Option (List Token)
  pub element : List Token → Read M

-- this list before that
abbrev pub after : {M : Type 0} → Loop M → M → Read M → Read M
after loop xs (Err left) = Err left
after loop xs (Ok p) = Ok (loop.join xs p.0, p.1)

abbrev pub stop_or : {M : Type 0} → Loop M → Option (List Token) → Read M → Read M
stop_or loop (Some rest) read = Ok (loop.none, rest)
stop_or loop None read = read

abbrev pub then_more : {M : Type 0} → Loop M → Read M → (List Token → Read M) → Read M
then_more loop (Err left) rest = Err left
then_more loop (Ok x) rest = after loop x.0 (rest x.1)

-- elements up to the end, in at most n steps
abbrev pub many_at : {M : Type 0} → Loop M → ℕ → List Token → Read M
many_at loop zero ts = Err (length ts)
many_at loop (suc n) ts = stop_or loop (loop.stop ts) (then_more loop (loop.element ts) (many_at loop n))

-- elements up to the end
unfoldable pub run : {M : Type 0} → Loop M → List Token → Read M
run loop ts = many_at loop (suc (length ts)) ts

-- what is read, as a list of one
abbrev pub one : {A : Type 0} → Read A → Read (List A)
one (Err left) = Err left
one (Ok x) = Ok (x.0 ∷ [], x.1)

abbrev pub list_loop : {A : Type 0} → (List Token → Option (List Token)) → (List Token → Read A) → Loop (List A)
list_loop stop element = record { none = []; join = ◌++◌; stop = stop; element = λ ts. one (element ts) }

abbrev pub name_at : List Token → Read (List ℕ)
name_at (t.Name n ∷ ts) = Ok (n, ts)
name_at ts = Err (length ts)

abbrev pub number_at : List Token → Read ℕ
number_at (t.Number n ∷ ts) = Ok (n, ts)
number_at ts = Err (length ts)

abbrev pub open_brace_at : List Token → Option (List Token)
open_brace_at (t.OpenBrace ∷ ts) = Some ts
open_brace_at _ = None

-- what has to stand at the front of the tokens
abbrev pub due : List Token → Option (List Token) → Result (List Token) ℕ
due ts None = Err (length ts)
due ts (Some rest) = Ok rest

abbrev pub close_brace_at : List Token → Option (List Token)
close_brace_at (t.CloseBrace ∷ ts) = Some ts
close_brace_at _ = None

abbrev pub open_paren_at : List Token → Result (List Token) ℕ
open_paren_at (t.OpenParen ∷ ts) = Ok ts
open_paren_at ts = Err (length ts)

abbrev pub close_paren_at : List Token → Option (List Token)
close_paren_at (t.CloseParen ∷ ts) = Some ts
close_paren_at _ = None

abbrev pub comma_at : List Token → Result (List Token) ℕ
comma_at (t.Comma ∷ ts) = Ok ts
comma_at ts = Err (length ts)

abbrev pub semicolon_at : List Token → Result (List Token) ℕ
semicolon_at (t.Semicolon ∷ ts) = Ok ts
semicolon_at ts = Err (length ts)

abbrev pub negative_at : Read ℕ → Read Atom
negative_at (Err left) = Err left
negative_at (Ok n) = Ok (Number (neg_ℤ (pos n.0)), n.1)

abbrev pub atom_at : List Token → Read Atom
atom_at (t.Name n ∷ ts) = Ok (Variable n, ts)
atom_at (t.Number n ∷ ts) = Ok (Number (pos n), ts)
atom_at (t.Minus ∷ ts) = negative_at (number_at ts)
atom_at ts = Err (length ts)

-- a further argument
abbrev pub further_at : List Token → Read Atom
further_at ts = comma_at ts >>= λ x. atom_at x

-- the arguments after the first, and the bracket that closes them
abbrev pub more_loop : Loop (List Atom)
more_loop = list_loop close_paren_at further_at

abbrev pub first_arg : List Token → Read (List Atom)
first_arg ts = atom_at ts >>= λ a. after more_loop (a.0 ∷ []) (run more_loop a.1)

-- the arguments, and the bracket that closes them
abbrev pub args_at : List Token → Read (List Atom)
args_at ts = stop_or more_loop (close_paren_at ts) (first_arg ts)

-- a request on the object, after its dot
abbrev pub call_at : List ℕ → List Token → Read Call
call_at object ts =
    name_at ts >>= λ op. open_paren_at op.1 >>= λ x. args_at x >>= λ as'. Ok (call_of object op.0 as'.0, as'.1)

abbrev pub operator_at : List Token → Option (Operator × List Token)
operator_at (t.Plus ∷ ts) = Some (o.Plus, ts)
operator_at (t.Minus ∷ ts) = Some (o.Minus, ts)
operator_at (t.Times ∷ ts) = Some (o.Times, ts)
operator_at _ = None

abbrev pub relation_at : List Token → Read Relation
relation_at (t.Equal ∷ ts) = Ok (r.Equal, ts)
relation_at (t.Unequal ∷ ts) = Ok (r.Unequal, ts)
relation_at (t.Less ∷ ts) = Ok (r.Less, ts)
relation_at (t.AtMost ∷ ts) = Ok (r.AtMost, ts)
relation_at (t.Greater ∷ ts) = Ok (r.Greater, ts)
relation_at (t.AtLeast ∷ ts) = Ok (r.AtLeast, ts)
relation_at ts = Err (length ts)

-- the rest of an expression that begins with a value
abbrev pub expr_with : Atom → List Token → Option (Operator × List Token) → Read Expr
expr_with a ts None = Ok (Plain a, ts)
expr_with a ts (Some op) = atom_at op.1 >>= λ b. Ok (Binary a op.0 b.0, b.1)

abbrev pub expr_at : List Token → Read Expr
expr_at ts = atom_at ts >>= λ a. expr_with a.0 a.1 (operator_at a.1)

abbrev pub test_of : Atom → Relation → Atom → Test
test_of left relation right = record { left = left; relation = relation; right = right }

abbrev pub test_at : List Token → Read Test
test_at ts = atom_at ts >>= λ a. relation_at a.1 >>= λ r. atom_at r.1 >>= λ b. Ok (test_of a.0 r.0 b.0, b.1)

-- a statement, where a semicolon ends it
abbrev pub ended_at : Stmts → List Token → Read Stmts
ended_at s ts = semicolon_at ts >>= λ x. Ok (s, x)

-- what a variable gets, after the =: a query where a name and a dot stand, else an expression
abbrev pub query_at : List ℕ → List ℕ → List Token → Read Stmts
query_at v object ts = call_at object ts >>= λ c. ended_at (query v c.0 end) c.1

abbrev pub assign_at : List ℕ → List Token → Read Stmts
assign_at v ts = expr_at ts >>= λ e. ended_at (assign v e.0 end) e.1

-- the rest of an assignment of what two values make, from the second on
abbrev pub computed_at : List ℕ → Atom → Operator → List Token → Read Stmts
computed_at v a op ts = atom_at ts >>= λ b. ended_at (assign v (Binary a op b.0) end) b.1

abbrev pub assigned_at : List ℕ → List Token → Read Stmts
assigned_at v (t.Name object ∷ t.Dot ∷ ts) = query_at v object ts
assigned_at v ts = assign_at v ts

-- a command with these arguments
abbrev pub with_args : List ℕ → List ℕ → Read (List Atom) → Read Stmts
with_args object op args =
    (args >>= λ (as' : List Atom × List Token). Ok (call_of object op as'.0, as'.1)) >>= λ (c : Call
    × List Token). ended_at (command c.0 end) c.1

abbrev pub command_at : List ℕ → List Token → Read Stmts
command_at object ts = call_at object ts >>= λ c. ended_at (command c.0 end) c.1

-- a statement that begins with a name
abbrev pub named_at : List ℕ → List Token → Read Stmts
named_at n (t.Dot ∷ ts) = command_at n ts
named_at n (t.Assign ∷ ts) = assigned_at n ts
named_at n ts = Err (length ts)

-- a body in braces
abbrev pub braced_at : (List Token → Read Stmts) → List Token → Read Stmts
braced_at inner ts = due ts (open_brace_at ts) >>= λ x. inner x

-- the second body of an if, where there is one
abbrev pub other_at : (List Token → Read Stmts) → List Token → Read (Option Stmts)
other_at inner (t.Else ∷ ts) = braced_at inner ts >>= λ b. Ok (Some b.0, b.1)
other_at inner ts = Ok (None, ts)

abbrev pub choice_of : Test → Stmts → Option Stmts → Stmts
choice_of c first None = choose c first end
choice_of c first (Some other) = choose_else c first other end

-- an if, after that word
abbrev pub choice_at : (List Token → Read Stmts) → List Token → Read Stmts
choice_at inner ts =
    test_at ts >>= λ c. braced_at inner c.1 >>= λ b. other_at inner b.1 >>= λ e. Ok (choice_of c.0 b.0 e.0, e.1)

-- a repeat, after that word
abbrev pub repeat_at : (List Token → Read Stmts) → List Token → Read Stmts
repeat_at inner ts = number_at ts >>= λ n. braced_at inner n.1 >>= λ b. Ok (again n.0 b.0 end, b.1)

-- a statement, as a list of one; its bodies are read by inner
abbrev pub stmt_at : (List Token → Read Stmts) → List Token → Read Stmts
stmt_at inner (t.Leave ∷ ts) = ended_at (leave end) ts
stmt_at inner (t.If ∷ ts) = choice_at inner ts
stmt_at inner (t.Repeat ∷ ts) = repeat_at inner ts
stmt_at inner (t.Name n ∷ ts) = named_at n ts
stmt_at inner ts = Err (length ts)

abbrev pub stmts_loop : (List Token → Read Stmts) → Loop Stmts
stmts_loop element = record { none = end; join = join_statements; stop = close_brace_at; element = element }

-- a statement as a list of one, where at most `levels` statements stand one inside another
abbrev pub stmt_in : ℕ → List Token → Read Stmts
stmt_in zero ts = Err (length ts)
stmt_in (suc n) ts = stmt_at (run (stmts_loop (stmt_in n))) ts

-- statements and the brace that closes them, at most `levels` one inside another
abbrev pub body_loop : ℕ → Loop Stmts
body_loop levels = stmts_loop (stmt_in levels)

-- names and the brace that opens after them
abbrev pub names_loop : Loop (List (List ℕ))
names_loop = list_loop open_brace_at name_at

abbrev pub block_of : List (List ℕ) → Stmts → Block
block_of reserved body = record { reserved = reserved; body = body }

-- a block, after the word separate
abbrev pub block_at : List Token → Read Block
block_at ts =
    name_at ts >>= λ n. after names_loop (n.0 ∷ []) (run names_loop n.1) >>= λ ns. run (body_loop most_levels) ns.1 >>=
    λ b.
    Ok (block_of ns.0 b.0, b.1)

-- a block with that word
abbrev pub separate_at : List Token → Read Block
separate_at (t.Separate ∷ ts) = block_at ts
separate_at ts = Err (length ts)

-- blocks and the brace that closes them
abbrev pub blocks_loop : Loop (List Block)
blocks_loop = list_loop close_brace_at separate_at

abbrev pub kind_at : List Token → Read KindText
kind_at (t.Account ∷ ts) = number_at ts >>= λ n. Ok (Account n.0, n.1)
kind_at (t.Buffer ∷ ts) = number_at ts >>= λ n. Ok (Buffer n.0, n.1)
kind_at (t.Grid ∷ ts) = number_at ts >>= λ n. number_at n.1 >>= λ m. Ok (Grid n.0 m.0, m.1)
kind_at ts = Err (length ts)

abbrev pub object_of : List ℕ → KindText → Item
object_of name kind = Object (record { name = name; kind = kind })

abbrev pub client_of : List ℕ → List Block → Item
client_of name blocks = Client (record { name = name; blocks = blocks })

-- the object of that name, from its kind on
abbrev pub object_called_at : List ℕ → List Token → Read Item
object_called_at name ts = kind_at ts >>= λ k. Ok (object_of name k.0, k.1)

abbrev pub object_at : List Token → Read Item
object_at ts = name_at ts >>= λ n. object_called_at n.0 n.1

-- a client's own blocks, after the brace that opens them
abbrev pub own_blocks_at : List ℕ → List Token → Read Item
own_blocks_at name ts = run blocks_loop ts >>= λ bs. Ok (client_of name bs.0, bs.1)

-- a formal: its kind and its name
abbrev pub formal_of : KindWord → List ℕ → Formal
formal_of kind name = record { kind = kind; name = name }

abbrev pub kind_word_at : List Token → Read KindWord
kind_word_at (t.Account ∷ ts) = Ok (kind.Account, ts)
kind_word_at (t.Buffer ∷ ts) = Ok (kind.Buffer, ts)
kind_word_at (t.Grid ∷ ts) = Ok (kind.Grid, ts)
kind_word_at ts = Err (length ts)

abbrev pub formal_at : List Token → Read Formal
formal_at ts = kind_word_at ts >>= λ k. name_at k.1 >>= λ n. Ok (formal_of k.0 n.0, n.1)

abbrev pub further_formal_at : List Token → Read Formal
further_formal_at ts = comma_at ts >>= λ x. formal_at x

-- the formals after the first, and the bracket that closes them
abbrev pub formals_loop : Loop (List Formal)
formals_loop = list_loop close_paren_at further_formal_at

abbrev pub formals_at : List Token → Read (List Formal)
formals_at ts = formal_at ts >>= λ f. after formals_loop (f.0 ∷ []) (run formals_loop f.1)

abbrev pub further_name_at : List Token → Read (List ℕ)
further_name_at ts = comma_at ts >>= λ x. name_at x

-- the names after the first, and the bracket that closes them
abbrev pub given_loop : Loop (List (List ℕ))
given_loop = list_loop close_paren_at further_name_at

abbrev pub given_at : List Token → Read (List (List ℕ))
given_at ts = name_at ts >>= λ n. after given_loop (n.0 ∷ []) (run given_loop n.1)

abbrev pub template_of : List ℕ → List Formal → List Block → Item
template_of name formals blocks = Template (record { name = name; formals = formals; blocks = blocks })

abbrev pub started_of : List ℕ → List ℕ → List (List ℕ) → Item
started_of name template objects = Started (record { name = name; template = template; objects = objects })

-- a template's blocks, with the brace that opens them
abbrev pub template_blocks_at : List ℕ → List Formal → List Token → Read Item
template_blocks_at name formals ts =
    due ts (open_brace_at ts) >>= λ x. run blocks_loop x >>= λ bs. Ok (template_of name formals bs.0, bs.1)

-- the template of that name, from its first formal on
abbrev pub template_called_at : List ℕ → List Token → Read Item
template_called_at name ts = formals_at ts >>= λ fs. template_blocks_at name fs.0 fs.1

abbrev pub template_at : List Token → Read Item
template_at ts = name_at ts >>= λ n. open_paren_at n.1 >>= λ x. template_called_at n.0 x

-- the client of that name, from its first object on
abbrev pub started_with_at : List ℕ → List ℕ → List Token → Read Item
started_with_at name template ts = given_at ts >>= λ os. Ok (started_of name template os.0, os.1)

-- the client of that name, from its template on
abbrev pub started_at : List ℕ → List Token → Read Item
started_at name ts = name_at ts >>= λ n. open_paren_at n.1 >>= λ x. started_with_at name n.0 x

-- the client of that name: with blocks of its own, or of a template
abbrev pub client_called_at : List ℕ → List Token → Read Item
client_called_at name (t.OpenBrace ∷ ts) = own_blocks_at name ts
client_called_at name (t.Assign ∷ ts) = started_at name ts
client_called_at name ts = Err (length ts)

abbrev pub client_at : List Token → Read Item
client_at ts = name_at ts >>= λ n. client_called_at n.0 n.1

abbrev pub item_at : List Token → Read Item
item_at (t.Object ∷ ts) = object_at ts
item_at (t.Client ∷ ts) = client_at ts
item_at (t.Template ∷ ts) = template_at ts
item_at ts = Err (length ts)

-- nothing, at the end
abbrev pub end_at : List Token → Option (List Token)
end_at [] = Some []
end_at (x ∷ ts) = None

-- items up to the end
abbrev pub items_loop : Loop (List Item)
items_loop = list_loop end_at item_at
