-- The graph's nodes for a list of statements are those of its first statement and then those of the rest, and there are
-- as many as the statements count. The functions that count and build the nodes of a graph stand on it; their loops
-- keep that the nodes so far and those of the rest make the whole list. It goes by cases on the first statement.
use Rattle.std.proofs.Common.{◌≡◌, ℕ, zero, suc, ◌+◌, ◌<◌, ◌≤◌, List, [], ◌∷◌, ◌++◌, length, get_or, drop, refl, sym, ap, ◌∙◌, arith, add-one, append_assoc, length-append, length-drop, drop-cons, Bool}
use Rattle.qs_graph.proofs.Common.{again, append-nil, choose, drop_all, end, single, Statements, statements_of}
use Rattle.qs_program.specs.declared.code.Test.{Test}
use Rattle.qs_program.specs.declared.code.Stmt.{Stmt}
use Rattle.qs_program.specs.declared.code.Stmt.TheVariants.{Command, If, Repeat}
use Rattle.qs_graph.specs.declared.node.Node.TheVariants.{Local, Branch}
use Rattle.qs_graph.specs.declared.node.Action.TheVariants.{SetCount}
use Rattle.qs_graph.specs.declared.node.Choice.TheVariants as by
use Rattle.qs_graph.specs.audit.Nodes.{GraphNode, to, to_either}
use Rattle.qs_graph.specs.audit.Graphs.{node_count, first_node, places_of}
use Rattle.qs_graph.proofs.StatementPlaces.{length_places}

pub count_cons : (s : Stmt) (xs : List Stmt) → node_count (statements_of (s ∷ xs)) ≡ node_count (single s) + node_count (statements_of xs)
count_cons (Command c) xs = omega arith
count_cons _ xs = omega arith

pub count_drop : (xs : List Stmt) (i : ℕ) (d : Stmt) → i < length xs
    → node_count (statements_of (drop i xs)) ≡ node_count (single (get_or xs i d)) + node_count (statements_of (drop (i + 1) xs))
count_drop xs i d within = rw (drop-cons xs i d within, add-one) (count_cons (get_or xs i d) (drop (suc i) xs))

pub count_at : (xs : List Stmt) (i : ℕ) (d : Stmt) → i < length xs → node_count (single (get_or xs i d)) ≤ node_count (statements_of xs)
count_at [] i d within = absurd (omega arith)
count_at (s ∷ xs) zero d within = omega (arith, count_cons s xs)
count_at (s ∷ xs) (suc i) d within = omega (arith, count_cons s xs, count_at xs i d (omega arith))

-- where statements go on: their places are those of the first one and then those of the rest
abbrev Joins : (at next out : ℕ) (s : Stmt) (xs : List Stmt) → Type 0
Joins at next out s xs =
    places_of at next out (statements_of (s ∷ xs))
    ≡ places_of at (first_node (at + node_count (single s)) next (statements_of xs)) out (single s)
    ++ places_of (at + node_count (single s)) next out (statements_of xs)

repeat_list : (p q : GraphNode) (xs zs : List GraphNode) → p ∷ q ∷ (xs ++ zs) ≡ (p ∷ q ∷ (xs ++ [])) ++ zs
repeat_list p q xs zs = ap (λ r. p ∷ q ∷ r) (sym (append_assoc xs [] zs))

if_list : (p : GraphNode) (xs ys zs : List GraphNode) → p ∷ (xs ++ (ys ++ zs)) ≡ (p ∷ (xs ++ (ys ++ []))) ++ zs
if_list p xs ys zs = ap (λ r. p ∷ r) (sym (append_assoc xs (ys ++ []) zs ∙ ap (λ r. xs ++ r) (append_assoc ys [] zs)))

if_joins : (at next out : ℕ) (t : Test) (b : Bool) (first other rest : Statements) (m : ℕ)
    → m ≡ at + 1 + node_count first + node_count other
    → places_of at next out (choose t b first other rest)
    ≡ places_of at (first_node m next rest) out (choose t b first other end) ++ places_of m next out rest
if_joins at next out t b first other rest m e =
    let n = at + 1 + node_count first + node_count other in
    let after = first_node n next rest in
    rw e (if_list (to_either (Branch (by.If t)) (first_node (at + 1) after first) (first_node (at + 1 + node_count first) after other))
    (places_of (at + 1) after out first) (places_of (at + 1 + node_count first) after out other) (places_of n next out rest))

repeat_joins : (at next out k : ℕ) (body rest : Statements) (m : ℕ) → m ≡ at + 2 + node_count body
    → places_of at next out (again k body rest) ≡ places_of at (first_node m next rest) out (again k body end) ++ places_of m next out rest
repeat_joins at next out k body rest m e =
    let n = at + 2 + node_count body in
    let after = first_node n next rest in
    rw e (repeat_list (to (Local (SetCount k)) (at + 1)) (to_either (Branch by.Repeat) (first_node (at + 2) (at + 1) body) after)
    (places_of (at + 2) (at + 1) after body) (places_of n next out rest))

pub places_cons : (at next out : ℕ) (s : Stmt) (xs : List Stmt) → Joins at next out s xs
places_cons at next out (If t b first other) xs =
    if_joins at next out t b first other (statements_of xs) (at + node_count (single (If t b first other))) (omega arith)
places_cons at next out (Repeat n body) xs =
    repeat_joins at next out n body (statements_of xs) (at + node_count (single (Repeat n body))) (omega arith)
places_cons at next out _ xs = refl

pub places_drop : (xs : List Stmt) (i at next out : ℕ) (d : Stmt) → i < length xs
    → places_of at next out (statements_of (drop i xs))
    ≡ places_of at (first_node (at + node_count (single (get_or xs i d))) next
    (statements_of (drop (i + 1) xs))) out (single (get_or xs i d))
    ++ places_of (at + node_count (single (get_or xs i d))) next out (statements_of (drop (i + 1) xs))
places_drop xs i at next out d within = rw (drop-cons xs i d within, add-one) (places_cons at next out (get_or xs i d) (drop (suc i) xs))

pub first_some : (xs : List Stmt) (at next : ℕ) → 0 < length xs → first_node at next (statements_of xs) ≡ at
first_some [] at next h = absurd (omega arith)
first_some (Command c ∷ xs) at next h = refl
first_some _ at next h = refl

-- nothing is left past the last statement
pub count_past : (xs : List Stmt) (i : ℕ) → length xs ≤ i → node_count (statements_of (drop i xs)) ≡ 0
count_past xs i h = ap (λ ys. node_count (statements_of ys)) (drop_all i xs h)

pub after_more : (xs : List Stmt) (i at next : ℕ) → i + 1 < length xs → first_node at next (statements_of (drop (i + 1) xs)) ≡ at
after_more xs i at next h = first_some (drop (i + 1) xs) at next (omega (arith, length-drop (i + 1) xs))

pub after_last : (xs : List Stmt) (i at next : ℕ) → length xs ≤ i + 1 → first_node at next (statements_of (drop (i + 1) xs)) ≡ next
after_last xs i at next h = ap (λ ys. first_node at next (statements_of ys)) (drop_all (i + 1) xs h)

-- one more statement: `now` is what was added before it, `whole` what there will be at last
module _ (stmts : List Stmt) (now : List GraphNode) (i next out total : ℕ) (whole : List GraphNode)
    (long_is : length now + node_count (statements_of (drop i stmts)) ≡ total)
    (added_is : now ++ places_of (length now) next out (statements_of (drop i stmts)) ≡ whole) where
  pub record Added (new : List GraphNode) : Type 0 where
    pub long : length new + node_count (statements_of (drop (i + 1) stmts)) ≡ total
    pub added : new ++ places_of (length new) next out (statements_of (drop (i + 1) stmts)) ≡ whole

  pub goes_on : (new : List GraphNode) (after : ℕ) (item : Stmt) → i < length stmts → item ≡ get_or stmts i item
      → after ≡ first_node (length now + node_count (single item)) next (statements_of (drop (i + 1) stmts))
      → new ≡ now ++ places_of (length now) after out (single item) → Added new
  goes_on new after item within is after_is new_is =
      let rest = statements_of (drop (i + 1) stmts) in
      let m = length now + node_count (single item) in
      let grown : length new ≡ m =
      ap length new_is ∙ length-append now (places_of (length now) after out (single item))
      ∙ ap (λ n. length now + n) (length_places (length now) after out (single item)) in
      let split : places_of (length now) next out (statements_of (drop i stmts))
      ≡ places_of (length now) after out (single item) ++ places_of m next out rest =
      places_drop stmts i (length now) next out item within
      ∙ ap (λ s. places_of (length now) (first_node (length now + node_count (single s)) next rest) out (single s)
      ++ places_of (length now + node_count (single s)) next out rest) (sym is)
      ∙ ap (λ a. places_of (length now) a out (single item) ++ places_of m next out rest) (sym after_is) in
      let counts : node_count (statements_of (drop i stmts)) ≡ node_count (single item) + node_count rest =
      count_drop stmts i item within ∙ ap (λ s. node_count (single s) + node_count rest) (sym is) in
      record {
        long = omega (arith, grown, counts, long_is);
        added = ap (λ n. new ++ places_of n next out rest) grown
            ∙ ap (λ z. z ++ places_of m next out rest) new_is
            ∙ append_assoc now (places_of (length now) after out (single item)) (places_of m next out rest)
            ∙ ap (λ z. now ++ z) (sym split)
            ∙ added_is;
      }

pub longer : (xs ys : List GraphNode) (next out : ℕ) (b : Statements)
    → ys ≡ xs ++ places_of (length xs) next out b → length ys ≡ length xs + node_count b
longer xs ys next out b e = ap length e ∙ length-append xs (places_of (length xs) next out b)
    ∙ ap (λ n. length xs + n) (length_places (length xs) next out b)

-- the places of an `if`, added one part after another
pub if_done : (p0 p1 p2 p3 : List GraphNode) (p : GraphNode) (t : Test) (b : Bool) (first other : Statements) (next out : ℕ)
    → p1 ≡ p0 ++ p ∷ [] → p2 ≡ p1 ++ places_of (length p1) next out first → p3 ≡ p2 ++ places_of (length p2) next out other
    → p ≡ to_either (Branch (by.If t)) (first_node (length p0 + 1) next first) (first_node (length p0 + 1 + node_count first) next other)
    → p3 ≡ p0 ++ places_of (length p0) next out (choose t b first other end)
if_done p0 p1 p2 p3 p t b first other next out e1 e2 e3 ep =
    let at = length p0 in
    let l1 : length p1 ≡ at + 1 = ap length e1 ∙ length-append p0 (p ∷ []) in
    let l2 : length p2 ≡ at + 1 + node_count first = longer p1 p2 next out first e2 ∙ ap (λ n. n + node_count first) l1 in
    let xs = places_of (at + 1) next out first in
    let ys = places_of (at + 1 + node_count first) next out other in
    let s2 : p2 ≡ (p0 ++ p ∷ []) ++ xs = e2 ∙ ap (λ n. p1 ++ places_of n next out first) l1 ∙ ap (λ z. z ++ xs) e1 in
    let s3 : p3 ≡ ((p0 ++ p ∷ []) ++ xs) ++ ys = e3 ∙ ap (λ n. p2 ++ places_of n next out other) l2 ∙ ap (λ z. z ++ ys) s2 in
    s3
    ∙ append_assoc (p0 ++ p ∷ []) xs ys
    ∙ append_assoc p0 (p ∷ []) (xs ++ ys)
    ∙ ap (λ z. p0 ++ (z ∷ (xs ++ ys))) ep
    ∙ ap (λ z. p0 ++ (to_either (Branch (by.If t)) (first_node (at + 1) next first)
    (first_node (at + 1 + node_count first) next other) ∷ (xs ++ z)))
    (sym (append-nil ys))
