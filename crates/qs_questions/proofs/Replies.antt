-- A query that only asks changes nothing, and an object of its kind answers it. The first goes by cases on the object
-- and the operation, the second by what `find` gives.
use Rattle.std.proofs.Common.{◌≡◌, ◌==◌, ◌&&◌, ℕ, Bool, true, false, cond, List, [], ◌∷◌, length, Option, Some, None, IfSome, IsSome, refl, sym, ◌∙◌, rules, ℤ}
use Rattle.qs_questions.proofs.Common.{all_operations, arity, filter, find, is_of_account, is_of_buffer, is_of_grid, is_query, Name, object_at, operations_of, ProgramShape, same_name, word}
use Rattle.qs_objects.specs.audit.Act.{act}
use Rattle.qs_objects.specs.Operations.{fits}
use Rattle.qs_objects.specs.declared.Op.{Op}
use Rattle.qs_objects.specs.declared.object.Kind.{Kind}
use Rattle.qs_objects.specs.declared.object.Kind.TheVariants as kinds
use Rattle.qs_objects.proofs.Choices.{and_cases, eqb_true}
use Rattle.qs_objects.proofs.ObjectLaws.{answers}
use Rattle.qs_meaning.specs.audit.Solo.{States}
use Rattle.qs_meaning.specs.StateKinds.{AreOfKind}
use Rattle.qs_questions.specs.Laws.{AskingChangesNothing, RepliesAreThere}
use Rattle.qs_questions.specs.Questions.{asked_in, object_of, only_asks, query_of, query_to}

pub unchanged : AskingChangesNothing
unchanged = search rules

module _ (q : Op → Bool) where
  chosen : (b : Bool) (x op : Op) (rest : Option Op) → (b ≡ true → q x ≡ true) → cond b (Some x) rest ≡ Some op
      → (rest ≡ Some op → q op ≡ true) → q op ≡ true
  chosen true x op rest e h later = (let same : x ≡ op = cc in (λ i. q (sym same i)) ∙ e refl)
  chosen false x op rest e h later = later h

  found_passes : (xs : List Op) (op : Op) → find q xs ≡ Some op → q op ≡ true
  found_passes [] op h = cc
  found_passes (x ∷ xs) op h = chosen (q x) x op (find q xs) (λ e. e) h (found_passes xs op)

module _ (test q : Op → Bool) where
  kept_front : (b : Bool) (x op : Op) (xs : List Op) → q x ≡ b → find test (cond b (x ∷ xs) xs) ≡ Some op
      → (find test xs ≡ Some op → q op ≡ true) → q op ≡ true
  kept_front true x op xs e h later = chosen q (test x) x op (find test xs) (λ _. e) h later
  kept_front false x op xs e h later = later h

  found_among : (xs : List Op) (op : Op) → find test (filter q xs) ≡ Some op → q op ≡ true
  found_among [] op h = cc
  found_among (x ∷ xs) op h = kept_front (q x) x op (filter q xs) refl h (found_among xs op)

found_fits : (test : Op → Bool) (kind : Kind) (op : Op)
    → find test (operations_of kind) ≡ Some op → fits op kind ≡ true
found_fits test (kinds.Account b) op h = found_among test is_of_account all_operations op h
found_fits test (kinds.Buffer k) op h = found_among test is_of_buffer all_operations op h
found_fits test (kinds.Grid n k) op h = found_among test is_of_grid all_operations op h

queries : (op : Op) → only_asks op ≡ true → is_query op ≡ true
queries = search rules

module _ (p : ProgramShape) (states : States) (kinds_are : AreOfKind p states) (text : Name) (args : List ℤ) where
  replies_one : (h : ℕ) (found : Option Op) → query_of (object_at p h).kind text (length args) ≡ found
      → IfSome (query_to h found) (λ q. IsSome (act (states q.object) q.op args).1)
  replies_one h None e = tt
  replies_one h (Some op) e =
      let test : Op → Bool = λ op. same_name text (word op) && (only_asks op && (arity op == length args)) in
      let passes : test op ≡ true = found_passes test (operations_of (object_at p h).kind) op e in
      let asks = and_cases (same_name text (word op)) (only_asks op && (arity op == length args)) passes in
      let counts = and_cases (only_asks op) (arity op == length args) asks.1 in
      answers (states h) op args (queries op counts.0)
      (kinds_are h op ∙ found_fits test (object_at p h).kind op e) (sym (eqb_true (arity op) (length args) counts.1))

  replies_at : (found : Option ℕ)
      → IfSome (asked_in p found text (length args)) (λ q. IsSome (act (states q.object) q.op args).1)
  replies_at None = tt
  replies_at (Some h) = replies_one h (query_of (object_at p h).kind text (length args)) refl

pub replies_there : RepliesAreThere
replies_there p states kinds_are object text args = replies_at p states kinds_are text args (object_of p object)
