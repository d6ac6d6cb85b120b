-- What equal texts are worth: the relations of two comparisons of the same statements hold together, and the
-- interaction trees of blocks of equal text ask for the same, reply by reply. Variables of one name have one number in
-- each client, so an assignment keeps equal values equal.
use Rattle.std.proofs.Common.{◌≡◌, ◌<◌, ◌≤◌, ℕ, zero, suc, ℤ, pos, Bool, true, false, ◌==◌, if◌then◌else◌, List, [], ◌∷◌, length, map, slice_set, refl, sym, ap₂, ◌∙◌, subst, ⊎_elim, arith}
use Rattle.qs_meaning.proofs.Common.{again, AllByRecursion, AllZip, apart_eqb, AreVariablesBelow, assign, atom_value, choose, clamp_to_word, command, end, exact, expr_value, get_or-set_other, get_or-set_same, IsAtomBelow, IsExprBelow, leave, length-set, Locals, num_cases, ProgramShape, query, relates, request_of, Statements, test_value}
use Rattle.qs_program.specs.declared.code.Atom.{Atom}
use Rattle.qs_program.specs.declared.code.Atom.TheVariants.{Variable, Number}
use Rattle.qs_program.specs.declared.code.Expr.{Expr}
use Rattle.qs_program.specs.declared.code.Expr.TheVariants.{Plain, Binary}
use Rattle.qs_program.specs.declared.code.Test.{Test}
use Rattle.qs_program.specs.declared.code.Call.{Call as TextCall}
use Rattle.qs_meaning.specs.Alike.{SameAtom, SameExpr, SameTest, SameCall, SameStatements, SameRequest, object_name, value_at}
use Rattle.qs_meaning.specs.audit.Interaction.{Interaction, Done, Call, Query, Next, meaning, tree_of}
use Rattle.qs_meaning.specs.Interaction.{turns}

-- two comparisons of the same statements as one
module _ (O P Q V W Z : ℕ → ℕ → Type 0) (objects : (h g : ℕ) → O h g → P h g → Q h g) (variables : (x y : ℕ) → V x y → W x y → Z x y) where
  both_atom : (a b : Atom) → SameAtom O V a b → SameAtom P W a b → SameAtom Q Z a b
  both_atom (Variable x) (Variable y) s r = variables x y s r
  both_atom (Number n) (Number m) s r = s
  both_atom _ _ s r = absurd s

  both_args : (xs ys : List Atom) → AllZip (SameAtom O V) xs ys → AllZip (SameAtom P W) xs ys → AllZip (SameAtom Q Z) xs ys
  both_args [] [] s r = tt
  both_args (a ∷ xs) (b ∷ ys) s r = (both_atom a b s.0 r.0, both_args xs ys s.1 r.1)
  both_args _ _ s r = absurd s

  both_expr : (e f : Expr) → SameExpr O V e f → SameExpr P W e f → SameExpr Q Z e f
  both_expr (Plain a) (Plain b) s r = both_atom a b s r
  both_expr (Binary a op c) (Binary b other d) s r = (both_atom a b s.0 r.0, s.1, both_atom c d s.2 r.2)
  both_expr _ _ s r = absurd s

  both_call : (c d : TextCall) → SameCall O V c d → SameCall P W c d → SameCall Q Z c d
  both_call c d s r = (objects c.object d.object s.0 r.0, s.1, both_args c.args d.args s.2 r.2)

  both_test : (t u : Test) → SameTest O V t u → SameTest P W t u → SameTest Q Z t u
  both_test t u s r = (both_atom t.left u.left s.0 r.0, s.1, both_atom t.right u.right s.2 r.2)

  pub both : (b c : Statements) → SameStatements O V b c → SameStatements P W b c → SameStatements Q Z b c
  both end end s r = tt
  both (command c rest) (command d later) s r = (both_call c d s.0 r.0, both rest later s.1 r.1)
  both (query x c rest) (query y d later) s r = (variables x y s.0 r.0, both_call c d s.1 r.1, both rest later s.2 r.2)
  both (assign x e rest) (assign y f later) s r = (variables x y s.0 r.0, both_expr e f s.1 r.1, both rest later s.2 r.2)
  both (choose t has_else first other rest) (choose u has_too one two later) s r =
      (both_test t u s.0 r.0, s.1, both first one s.2 r.2, both other two s.3 r.3, both rest later s.4 r.4)
  both (again n body rest) (again m text later) s r = (s.0, both body text s.1 r.1, both rest later s.2 r.2)
  both (leave rest) (leave later) s r = both rest later s r
  both _ _ s r = absurd s

-- the variables of both are below the numbers of the clients' variables
abbrev pub Below : ℕ → ℕ → ℕ → ℕ → Type 0
Below n m x y = (x < n) × (y < m)

module _ (O V : ℕ → ℕ → Type 0) (n m : ℕ) where
  below_atom : (a b : Atom) → SameAtom O V a b → IsAtomBelow n a → IsAtomBelow m b → SameAtom O (Below n m) a b
  below_atom (Variable x) (Variable y) s i j = (i, j)
  below_atom (Number k) (Number l) s i j = s
  below_atom _ _ s i j = absurd s

  below_args : (xs ys : List Atom) → AllZip (SameAtom O V) xs ys → AllByRecursion (IsAtomBelow n) xs → AllByRecursion (IsAtomBelow m) ys
      → AllZip (SameAtom O (Below n m)) xs ys
  below_args [] [] s i j = tt
  below_args (a ∷ xs) (b ∷ ys) s i j = (below_atom a b s.0 i.0 j.0, below_args xs ys s.1 i.1 j.1)
  below_args _ _ s i j = absurd s

  below_expr : (e f : Expr) → SameExpr O V e f → IsExprBelow n e → IsExprBelow m f → SameExpr O (Below n m) e f
  below_expr (Plain a) (Plain b) s i j = below_atom a b s i j
  below_expr (Binary a op c) (Binary b other d) s i j = (below_atom a b s.0 i.0 j.0, s.1, below_atom c d s.2 i.1 j.1)
  below_expr _ _ s i j = absurd s

  below_call : (c d : TextCall) → SameCall O V c d → AllByRecursion (IsAtomBelow n) c.args → AllByRecursion (IsAtomBelow m) d.args
      → SameCall O (Below n m) c d
  below_call c d s i j = (s.0, s.1, below_args c.args d.args s.2 i j)

  pub all_below : (b c : Statements) → SameStatements O V b c → AreVariablesBelow n b → AreVariablesBelow m c → SameStatements O (Below n m) b c
  all_below end end s i j = tt
  all_below (command c rest) (command d later) s i j = (below_call c d s.0 i.0 j.0, all_below rest later s.1 i.1 j.1)
  all_below (query x c rest) (query y d later) s i j = ((i.0, j.0), below_call c d s.1 i.1 j.1, all_below rest later s.2 i.2 j.2)
  all_below (assign x e rest) (assign y f later) s i j = ((i.0, j.0), below_expr e f s.1 i.1 j.1, all_below rest later s.2 i.2 j.2)
  all_below (choose t has_else first other rest) (choose u has_too one two later) s i j = (
    (below_atom t.left u.left s.0.0 i.0 j.0, s.0.1, below_atom t.right u.right s.0.2 i.1 j.1),
    s.1,
    all_below first one s.2 i.2 j.2,
    all_below other two s.3 i.3 j.3,
    all_below rest later s.4 i.4 j.4,
  )
  all_below (again k body rest) (again l text later) s i j = (s.0, all_below body text s.1 i.0 j.0, all_below rest later s.2 i.1 j.1)
  all_below (leave rest) (leave later) s i j = all_below rest later s i j
  all_below _ _ s i j = absurd s

-- trees that ask for the same, reply by reply
abbrev pub Twin : ProgramShape → ProgramShape → Interaction → Interaction → Type 0
Twin p q (Done l) (Done k) = Unit {0}
Twin p q (Call r next) (Call s later) = SameRequest p q r s × Twin p q next later
Twin p q (Query r next) (Query s later) = SameRequest p q r s × ((v : ℤ) → Twin p q (next v) (later v))
Twin p q _ _ = ⊥

-- V: variables of one name, each the only one of its client that is matched with the other; n and m: how many values
-- there are
module _ (p q : ProgramShape) (V : ℕ → ℕ → Type 0) (n m : ℕ)
    (one : (x y z : ℕ) → V x y → V x z → y ≡ z) (only : (x y z : ℕ) → V x z → V y z → x ≡ y) (bound : (x y : ℕ) → V x y → Below n m x y) where
  abbrev Objects : ℕ → ℕ → Type 0
  Objects h g = object_name p h ≡ object_name q g

  pub record Equal (l k : Locals) : Type 0 where
    pub many : n ≤ length l
    pub much : m ≤ length k
    pub same : (x y : ℕ) → V x y → value_at l x ≡ value_at k y

  atom_same : (l k : Locals) → Equal l k → (a b : Atom) → SameAtom Objects V a b → atom_value l a ≡ atom_value k b
  atom_same l k e (Variable x) (Variable y) s = e.same x y s
  atom_same l k e (Number i) (Number j) s = s
  atom_same l k e _ _ s = absurd s

  args_same : (l k : Locals) → Equal l k → (xs ys : List Atom) → AllZip (SameAtom Objects V) xs ys → map (atom_value l) xs ≡ map (atom_value k) ys
  args_same l k e [] [] s = refl
  args_same l k e (a ∷ xs) (b ∷ ys) s = ap₂ (λ v vs. v ∷ vs) (atom_same l k e a b s.0) (args_same l k e xs ys s.1)
  args_same l k e _ _ s = absurd s

  expr_same : (l k : Locals) → Equal l k → (f g : Expr) → SameExpr Objects V f g → expr_value l f ≡ expr_value k g
  expr_same l k e (Plain a) (Plain b) s = atom_same l k e a b s
  expr_same l k e (Binary a op c) (Binary b other d) s =
      let first = atom_same l k e a b s.0 in
      let second = atom_same l k e c d s.2 in
      λ i. clamp_to_word (exact (s.1 i) (first i) (second i))
  expr_same l k e _ _ s = absurd s

  test_same : (l k : Locals) → Equal l k → (t u : Test) → SameTest Objects V t u → test_value l t ≡ test_value k u
  test_same l k e t u s =
      let first = atom_same l k e t.left u.left s.0 in
      let second = atom_same l k e t.right u.right s.2 in
      λ i. relates (s.1 i) (first i) (second i)

  request_same : (l k : Locals) → Equal l k → (c d : TextCall) → SameCall Objects V c d → SameRequest p q (request_of l c) (request_of k d)
  request_same l k e c d s = record { object = s.0; op = s.1; args = args_same l k e c.args d.args s.2 }

  set_same : (l k : Locals) → Equal l k → (x y : ℕ) → V x y → (v w : ℤ) → v ≡ w → Equal (slice_set l x v) (slice_set k y w)
  set_same l k e x y matched v w is = record {
    many = let a = length-set l x v in omega (arith, a, e.many);
    much = let a = length-set k y w in omega (arith, a, e.much);
    same = λ a b other.
        ⊎_elim
        (λ (here : x ≡ a).
        let there : y ≡ b = one x y b matched (subst (λ z. V z b) (sym here) other) in
        subst (λ z. value_at (slice_set l x v) z ≡ value_at (slice_set k y w) b) here
        (subst (λ z. value_at (slice_set l x v) x ≡ value_at (slice_set k y w) z) there
        (get_or-set_same l x v (pos 0) (omega (arith, e.many, (bound x y matched).0))
        ∙ (is ∙ sym (get_or-set_same k y w (pos 0) (omega (arith, e.much, (bound x y matched).1)))))))
        (λ (no : (x == a) ≡ false).
        get_or-set_other l x a v (pos 0) (λ i. apart_eqb x a no (sym i))
        ∙ (e.same a b other
        ∙ sym (get_or-set_other k y b w (pos 0) (λ i. apart_eqb x a no (only x a b (subst (λ z. V x z) (sym i) matched) other)))))
        (num_cases x a);
  }

  abbrev Follows : Next → Next → Type 0
  Follows f g = (l k : Locals) → Equal l k → Twin p q (f l) (g k)

  turns_twin : (k : ℕ) (body text : Next → Next) (next later : Next) → ((f g : Next) → Follows f g → Follows (body f) (text g)) → Follows next later
      → Follows (turns k body next) (turns k text later)
  turns_twin zero body text next later h after = after
  turns_twin (suc k) body text next later h after = h (turns k body next) (turns k text later) (turns_twin k body text next later h after)

  if_twin : (b c : Bool) → b ≡ c → (t t' u u' : Interaction) → Twin p q t t' → Twin p q u u' → Twin p q (if b then t else u) (if c then t' else u')
  if_twin b c is t t' u u' h g = subst (λ d. Twin p q (if b then t else u) (if d then t' else u')) is (by_case b)
    where
      by_case : (b : Bool) → Twin p q (if b then t else u) (if b then t' else u')
      by_case true = h
      by_case false = g

  meaning_twin : (b c : Statements) → SameStatements Objects V b c → (next leaves next' leaves' : Next) → Follows next next' → Follows leaves leaves'
      → Follows (meaning b next leaves) (meaning c next' leaves')
  meaning_twin end end s next leaves next' leaves' f g l k e = f l k e
  meaning_twin (command c rest) (command d later) s next leaves next' leaves' f g l k e =
      (request_same l k e c d s.0, meaning_twin rest later s.1 next leaves next' leaves' f g l k e)
  meaning_twin (query x c rest) (query y d later) s next leaves next' leaves' f g l k e = (
    request_same l k e c d s.1,
    λ v. meaning_twin rest later s.2 next leaves next' leaves' f g (slice_set l x v) (slice_set k y v) (set_same l k e x y s.0 v v refl),
  )
  meaning_twin (assign x a rest) (assign y b later) s next leaves next' leaves' f g l k e =
      meaning_twin rest later s.2 next leaves next' leaves' f g (slice_set l x (expr_value l a)) (slice_set k y (expr_value k b))
      (set_same l k e x y s.0 (expr_value l a) (expr_value k b) (expr_same l k e a b s.1))
  meaning_twin (choose t has_else first other rest) (choose u has_too one_first two later) s next leaves next' leaves' f g l k e =
      let on : Next = meaning rest next leaves in
      let on' : Next = meaning later next' leaves' in
      let after : Follows on on' = meaning_twin rest later s.4 next leaves next' leaves' f g in
      if_twin (test_value l t) (test_value k u) (test_same l k e t u s.0)
      (meaning first on leaves l) (meaning one_first on' leaves' k) (meaning other on leaves l) (meaning two on' leaves' k)
      (meaning_twin first one_first s.2 on leaves on' leaves' after g l k e) (meaning_twin other two s.3 on leaves on' leaves' after g l k e)
  meaning_twin (again i body rest) (again j text later) s next leaves next' leaves' f g l k e =
      let on : Next = meaning rest next leaves in
      let on' : Next = meaning later next' leaves' in
      let after : Follows on on' = meaning_twin rest later s.2 next leaves next' leaves' f g in
      subst (λ j. Twin p q (turns i (λ turn. meaning body turn on) on l) (turns j (λ turn. meaning text turn on') on' k)) s.0
      (turns_twin i (λ turn. meaning body turn on) (λ turn. meaning text turn on') on on' (λ f g h. meaning_twin body text s.1 f on g on' h after) after l k e)
  meaning_twin (leave rest) (leave later) s next leaves next' leaves' f g l k e = g l k e
  meaning_twin _ _ s next leaves next' leaves' f g l k e = absurd s

  pub tree_twin : (b c : Statements) → SameStatements Objects V b c → (l k : Locals) → Equal l k → Twin p q (tree_of b l) (tree_of c k)
  tree_twin b c s l k e = meaning_twin b c s Done Done Done Done (λ l k e. tt) (λ l k e. tt) l k e
