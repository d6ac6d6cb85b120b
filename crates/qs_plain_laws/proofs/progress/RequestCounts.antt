-- Whatever the replies are, a sound block makes at most as many requests in all as its load says. It goes by induction
-- on the statements, and for a repeat by induction on its turns, as for the requests on one object; then the requests
-- are shared out among the objects of the block's list.
use Rattle.std.proofs.Common.{◌≡◌, ◌≤◌, ◌==◌, ℕ, zero, suc, ◌+◌, ◌*◌, ◌-◌, max, Bool, true, if◌then◌else◌, ℤ, List, [], ◌∷◌, slice_set, sum_by, refl, arith, rules}
use Rattle.std.proofs.Math.Nat.{mul-le-mul_left}
use Rattle.qs_played.proofs.Names.{sum_by-cons, sum_by-le-sum_by, eqb_self, Declared, load_of, BlockShape, block_load, is_in, IsSoundBody, Locals, expr_value, test_value, is_in-sum_by}
use Rattle.qs_program.specs.audit.Statements.{Statements, end, command, query, assign, choose, again, leave}
use Rattle.qs_meaning.specs.audit.Interaction.{Interaction, Done, Call, Query, Next, meaning, tree_of}
use Rattle.qs_meaning.specs.Interaction.{turns}

-- each path makes at most so many requests
abbrev pub AtMost : Interaction → ℕ → Type 0
AtMost (Done l) n = Unit {0}
AtMost (Call r next) n = (1 ≤ n) × AtMost next (n - 1)
AtMost (Query r next) n = (1 ≤ n) × ((v : ℤ) → AtMost (next v) (n - 1))

pub more : (t : Interaction) (n m : ℕ) → AtMost t n → n ≤ m → AtMost t m
more (Done l) n m w le = tt
more (Call r next) n m w le = (omega (arith, w.0, le), more next (n - 1) (m - 1) w.1 (omega (arith, le)))
more (Query r next) n m w le = (omega (arith, w.0, le), λ v. more (next v) (n - 1) (m - 1) (w.1 v) (omega (arith, le)))

-- how many requests statements can make
abbrev requests_of : Statements → ℕ
requests_of end = 0
requests_of (command c rest) = 1 + requests_of rest
requests_of (query x c rest) = 1 + requests_of rest
requests_of (assign x e rest) = requests_of rest
requests_of (choose t has_else first other rest) = max (requests_of first) (requests_of other) + requests_of rest
requests_of (again n body rest) = n * requests_of body + requests_of rest
requests_of (leave rest) = requests_of rest

either : (n : ℕ) (b : Bool) (t u : Interaction) → AtMost t n → AtMost u n → AtMost (if b then t else u) n
either n z t u w v = search rules

turns_within : (k load n : ℕ) (body : Next → Next) (next : Next)
    → ((m : ℕ) (f : Next) → n ≤ m → ((l : Locals) → AtMost (f l) m) → (l : Locals) → AtMost (body f l) (load + m))
    → ((l : Locals) → AtMost (next l) n) → (l : Locals) → AtMost (turns k body next l) (k * load + n)
turns_within zero load n body next one later l = more (next l) n (zero * load + n) (later l) (omega arith)
turns_within (suc k) load n body next one later l =
    more (body (turns k body next) l) (load + (k * load + n)) (suc k * load + n)
    (one (k * load + n) (turns k body next) (omega arith) (turns_within k load n body next one later) l)
    (omega arith)

-- before what comes next, and what comes after the innermost repeat
meaning_within : (body : Statements) (n : ℕ) (next leaves : Next) → ((l : Locals) → AtMost (next l) n)
    → ((l : Locals) → AtMost (leaves l) n)
    → (l : Locals) → AtMost (meaning body next leaves l) (requests_of body + n)
meaning_within end n next leaves a b l = more (next l) n (0 + n) (a l) (omega arith)
meaning_within (command c rest) n next leaves a b l = grind (arith, more, meaning_within rest n next leaves a b l)
meaning_within (query x c rest) n next leaves a b l = (
  omega arith,
  λ v. more (meaning rest next leaves (slice_set l x v)) (requests_of rest + n) ((1 + requests_of rest + n) - 1)
      (meaning_within rest n next leaves a b (slice_set l x v)) (omega arith),
)
meaning_within (assign x e rest) n next leaves a b l = search (rules, meaning_within rest n next leaves a b (slice_set l x (expr_value l e)))
meaning_within (choose t has_else first other rest) n next leaves a b l =
    let later : Next = meaning rest next leaves in
    let m : ℕ = requests_of rest + n in
    let after : (l : Locals) → AtMost (later l) m = meaning_within rest n next leaves a b in
    let out : (l : Locals) → AtMost (leaves l) m = λ l. more (leaves l) n m (b l) (omega arith) in
    let whole : ℕ = max (requests_of first) (requests_of other) + requests_of rest + n in
    either whole (test_value l t) (meaning first later leaves l) (meaning other later leaves l)
    (more (meaning first later leaves l) (requests_of first + m) whole (meaning_within first m later leaves after out l)
    (omega arith))
    (more (meaning other later leaves l) (requests_of other + m) whole (meaning_within other m later leaves after out l)
    (omega arith))
meaning_within (again k body rest) n next leaves a b l =
    let later : Next = meaning rest next leaves in
    let m : ℕ = requests_of rest + n in
    let after : (l : Locals) → AtMost (later l) m = meaning_within rest n next leaves a b in
    more (turns k (λ turn. meaning body turn later) later l) (k * requests_of body + m)
    (k * requests_of body + requests_of rest + n)
    (turns_within k (requests_of body) m (λ turn. meaning body turn later) later
    (λ p f le w. meaning_within body p f later w (λ l. more (later l) m p (after l) le))
    after l)
    (omega arith)
meaning_within (leave rest) n next leaves a b l = more (leaves l) n (requests_of rest + n) (b l) (omega arith)

-- sums of sums
sum_of_both : (f g : ℕ → ℕ) (xs : List ℕ) → sum_by (λ h. f h + g h) xs ≡ sum_by f xs + sum_by g xs
sum_of_both f g [] = refl
sum_of_both f g (x ∷ xs) = search (rules, sum_by-cons, sum_of_both f g xs)

sum_of_times : (n : ℕ) (f : ℕ → ℕ) (xs : List ℕ) → sum_by (λ h. n * f h) xs ≡ n * sum_by f xs
sum_of_times n f [] = omega arith
sum_of_times n f (x ∷ xs) =
    let ih = sum_of_times n f xs in
    rw (sum_by-cons (λ h. n * f h) x xs, sum_by-cons f x xs) (omega (arith, ih))

module _ (objects : List Declared) (reserved : List ℕ) where
  abbrev all_of : Statements → ℕ
  all_of body = sum_by (load_of body) reserved

  -- a request is on an object of the list
  one_more : (o : ℕ) (rest : Statements) → is_in reserved o ≡ true
      → 1 + all_of rest ≤ sum_by (λ h. (if o == h then 1 else 0) + load_of rest h) reserved
  one_more o rest e =
      let on : ℕ → ℕ = λ h. if o == h then 1 else 0 in
      let both = sum_of_both on (load_of rest) reserved in
      let one : on o ≡ 1 = rw (eqb_self o) refl in
      let some = is_in-sum_by on reserved o e in
      omega (arith, both, one, some)

  in_load : (body : Statements) → IsSoundBody objects reserved body → requests_of body ≤ all_of body
  in_load end sound = omega arith
  in_load (command c rest) sound =
      let one = one_more c.object rest sound.0.reserves in let ih = in_load rest sound.1 in omega (arith, one, ih)
  in_load (query x c rest) sound =
      let one = one_more c.object rest sound.1.reserves in let ih = in_load rest sound.2 in omega (arith, one, ih)
  in_load (assign x e rest) sound = in_load rest sound.2
  in_load (choose t has_else first other rest) sound =
      let most : ℕ → ℕ = λ h. max (load_of first h) (load_of other h) in
      let both = sum_of_both most (load_of rest) reserved in
      let a = sum_by-le-sum_by (load_of first) most reserved (λ h. omega arith) in
      let b = sum_by-le-sum_by (load_of other) most reserved (λ h. omega arith) in
      let x = in_load first sound.1 in let y = in_load other sound.2 in let z = in_load rest sound.3 in
      omega (arith, both, a, b, x, y, z)
  in_load (again n body rest) sound =
      let both = sum_of_both (λ h. n * load_of body h) (load_of rest) reserved in
      let times = sum_of_times n (load_of body) reserved in
      let x = mul-le-mul_left n (in_load body sound.1) in let z = in_load rest sound.2 in
      omega (arith, both, times, x, z)
  in_load (leave rest) sound = in_load rest sound

-- a sound block's tree
pub tree_within : (objects : List Declared) (b : BlockShape) (l : Locals) → IsSoundBody objects b.reserved b.body
    → AtMost (tree_of b.body l) (block_load b)
tree_within objects b l sound =
    more (tree_of b.body l) (requests_of b.body + 0) (block_load b)
    (meaning_within b.body 0 Done Done (λ l. tt) (λ l. tt) l)
    (let le = in_load objects b.reserved b.body sound in omega (arith, le))
