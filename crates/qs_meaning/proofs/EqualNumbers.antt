-- Texts that are the same by equal numbers are equal, and the other way round.
use Rattle.std.proofs.Common.{◌≡◌, ℕ, Bool, List, [], ◌∷◌, refl, ap, ap₂, subst, ◌∙◌}
use Rattle.std.specs.Bool.{Decides}
use Rattle.qs_meaning.proofs.Common.{again, AllZip, assign, choose, command, end, leave, query, Statements}
use Rattle.qs_objects.specs.declared.Op.{Op}
use Rattle.qs_script.specs.declared.tree.tree.Relation.{Relation}
use Rattle.qs_program.specs.declared.code.Atom.{Atom}
use Rattle.qs_program.specs.declared.code.Atom.TheVariants.{Variable, Number}
use Rattle.qs_program.specs.declared.code.Expr.{Expr}
use Rattle.qs_program.specs.declared.code.Expr.TheVariants.{Plain, Binary}
use Rattle.qs_program.specs.declared.code.Test.{Test}
use Rattle.qs_program.specs.declared.code.Call.{Call}
use Rattle.qs_meaning.specs.Alike.{SameAtom, SameCall, SameExpr, SameStatements, SameTest}

abbrev Same : ℕ → ℕ → Type 0
Same n m = n ≡ m

equal_atoms : (a b : Atom) → SameAtom Same Same a b → a ≡ b
equal_atoms (Variable x) (Variable y) s = ap Variable s
equal_atoms (Number n) (Number m) s = ap Number s
equal_atoms _ _ s = absurd s

equal_arguments : (xs ys : List Atom) → AllZip (SameAtom Same Same) xs ys → xs ≡ ys
equal_arguments [] [] s = refl
equal_arguments (a ∷ xs) (b ∷ ys) s = ap₂ (λ z zs. z ∷ zs) (equal_atoms a b s.0) (equal_arguments xs ys s.1)
equal_arguments _ _ s = absurd s

equal_exprs : (e f : Expr) → SameExpr Same Same e f → e ≡ f
equal_exprs (Plain a) (Plain b) s = ap Plain (equal_atoms a b s)
equal_exprs (Binary a op c) (Binary b other d) s = cc (equal_atoms a b s.0, s.1, equal_atoms c d s.2)
equal_exprs _ _ s = absurd s

abbrev test : Atom → Relation → Atom → Test
test a r b = record { left = a; relation = r; right = b }

equal_tests : (t u : Test) → SameTest Same Same t u → t ≡ u
equal_tests t u s =
    ap₂ (λ a r. test a r t.right) (equal_atoms t.left u.left s.0) s.1 ∙ ap (test u.left u.relation) (equal_atoms t.right u.right s.2)

abbrev call : ℕ → Op → List Atom → Call
call o op xs = record { object = o; op = op; args = xs }

equal_calls : (c d : Call) → SameCall Same Same c d → c ≡ d
equal_calls c d s = ap₂ (λ o op. call o op c.args) s.0 s.1 ∙ ap (call d.object d.op) (equal_arguments c.args d.args s.2)

equal_texts : (b c : Statements) → SameStatements Same Same b c → b ≡ c
equal_texts end end s = refl
equal_texts (command c rest) (command d later) s = ap₂ command (equal_calls c d s.0) (equal_texts rest later s.1)
equal_texts (query x c rest) (query y d later) s = cc (s.0, equal_calls c d s.1, equal_texts rest later s.2)
equal_texts (assign x e rest) (assign y f later) s = cc (s.0, equal_exprs e f s.1, equal_texts rest later s.2)
equal_texts (choose t has_else first other rest) (choose u has_too one two later) s =
    cc (equal_tests t u s.0, s.1, equal_texts first one s.2, equal_texts other two s.3, equal_texts rest later s.4)
equal_texts (again n body rest) (again m text later) s = cc (s.0, equal_texts body text s.1, equal_texts rest later s.2)
equal_texts (leave rest) (leave later) s = ap leave (equal_texts rest later s)
equal_texts _ _ s = absurd s

same_atom : (a : Atom) → SameAtom Same Same a a
same_atom (Variable x) = refl
same_atom (Number n) = refl

same_arguments : (xs : List Atom) → AllZip (SameAtom Same Same) xs xs
same_arguments [] = tt
same_arguments (a ∷ xs) = (same_atom a, same_arguments xs)

same_expr : (e : Expr) → SameExpr Same Same e e
same_expr (Plain a) = same_atom a
same_expr (Binary a op c) = (same_atom a, refl, same_atom c)

same_call : (c : Call) → SameCall Same Same c c
same_call c = (refl, refl, same_arguments c.args)

same_text : (b : Statements) → SameStatements Same Same b b
same_text end = tt
same_text (command c rest) = (same_call c, same_text rest)
same_text (query x c rest) = (refl, same_call c, same_text rest)
same_text (assign x e rest) = (refl, same_expr e, same_text rest)
same_text (choose t has_else first other rest) =
    ((same_atom t.left, refl, same_atom t.right), refl, same_text first, same_text other, same_text rest)
same_text (again n body rest) = (refl, same_text body, same_text rest)
same_text (leave rest) = same_text rest

pub equal_numbers : (r : Bool) (b c : Statements) → Decides r (SameStatements (λ h g. h ≡ g) (λ x y. x ≡ y) b c) → Decides r (b ≡ c)
equal_numbers r b c d = (λ is. equal_texts b c (d.0 is), λ is. d.1 (subst (λ x. SameStatements Same Same b x) is (same_text b)))
