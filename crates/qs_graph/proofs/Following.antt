-- A walk through the graph of a block, from Entry and with any counts, says the block's tree with its synchronisations
-- and ends within a known number of nodes. The laws on walks stand on `block_says`. It goes by induction on the
-- statements; the body of a repeat goes by induction on the turns that are left, while the counts of all earlier
-- branches stay as they are.
use Rattle.std.proofs.Common.{◌≡◌, ℕ, zero, suc, ◌+◌, ◌*◌, ◌<◌, ◌≤◌, max, ℤ, Bool, true, false, if◌then◌else◌, List, [], ◌∷◌, ◌++◌, length, slice_index_or, slice_set, refl, ap, ◌∙◌, arith, subst, length-append, length-set, get_or-set_same, get_or-set_other}
use Rattle.qs_graph.proofs.Common.{again, assign, choose, command, end, expr_value, leave, Locals, query, request_of, Statements, test_value}
use Rattle.qs_graph.specs.declared.node.Node.TheVariants as node
use Rattle.qs_graph.specs.declared.node.Choice.TheVariants.{Repeat}
use Rattle.qs_graph.specs.audit.Nodes.{GraphNode, to, to_either, exit, place_at}
use Rattle.qs_graph.specs.audit.Graphs.{node_count, first_node, places_of, block_graph}
use Rattle.qs_graph.specs.audit.Synced.{Synced, Done}
use Rattle.qs_graph.specs.Synced.{Next, turns, meaning, synced_of}
use Rattle.qs_graph.specs.audit.Walk.{Spot, Goes, entry, move, after_repeat}
use Rattle.qs_graph.specs.Steps.{steps, whole_steps}
use Rattle.qs_graph.proofs.StatementPlaces.{Stands, length_places, stands_first, stands_rest, stands_in}
use Rattle.qs_graph.proofs.Weights.{product}
use Rattle.qs_graph.proofs.Saying.{Says, says_up, move_is, says_done, says_next, says_call, says_sync, says_query}

-- the counts of branches before a number are as they were
pub record KeepsCounts (at : ℕ) (c d : List ℕ) : Type 0 where
  pub long : length d ≡ length c
  pub below : (r : ℕ) → r < at → slice_index_or d r 0 ≡ slice_index_or c r 0

kept_same : (at : ℕ) (c : List ℕ) → KeepsCounts at c c
kept_same at c = record { long = refl; below = λ r h. refl }

kept_also : (m n : ℕ) (c d e : List ℕ) → m ≤ n → KeepsCounts m c d → KeepsCounts n d e → KeepsCounts m c e
kept_also m n c d e h k w = record { long = w.long ∙ k.long; below = λ r u. w.below r (omega arith) ∙ k.below r u }

kept_set : (m r n : ℕ) (c : List ℕ) → m ≤ r → KeepsCounts m c (slice_set c r n)
kept_set m r n c h = record { long = length-set c r n; below = λ q w. get_or-set_other c r q n 0 (λ e. omega arith) }

abbrev spot : ℕ → Locals → List ℕ → Spot
spot n l c = record { node = n; locals = l; counts = c }

module _ (g : List GraphNode) where
  -- from the node n the walk says what `next` says, whatever happened to the counts from `at` on
  abbrev Leads : (at k : ℕ) (c : List ℕ) (n : ℕ) → Next → Type 0
  Leads at k c n next = (l : Locals) (d : List ℕ) → KeepsCounts at c d → Says g k (spot n l d) (next l)

  abbrev Follows : Statements → (at next out : ℕ) → Type 0
  Follows b at next out =
      (k : ℕ) (c : List ℕ) (sequel leaves : Next) → at + node_count b ≤ length c → Leads at k c next sequel → Leads at k c out leaves
      → (l : Locals) → Says g (k + steps b) (spot (first_node at next b) l c) (meaning b sequel leaves l)

  leads_less : (m n k j : ℕ) (c d : List ℕ) (at : ℕ) (sequel : Next)
      → m ≤ n → k ≤ j → KeepsCounts m c d → Leads m k c at sequel → Leads n j d at sequel
  leads_less m n k j c d at sequel h u w leads l e kept =
      says_up g k j (spot at l e) (sequel l) u (leads l e (kept_also m n c d e h w kept))

  -- the same later in the text
  leads_on : (m n k j : ℕ) (c : List ℕ) (at : ℕ) (sequel : Next) → m ≤ n → k ≤ j → Leads m k c at sequel → Leads n j c at sequel
  leads_on m n k j c at sequel h u leads = leads_less m n k j c c at sequel h u (kept_same m c) leads

  -- an `if`, whichever way
  chosen_ok : (b : Bool) (n m k : ℕ) (l : Locals) (c : List ℕ) (p q : Synced) → Says g k (spot n l c) p → Says g k (spot m l c) q
      → Says g k (spot (if b then n else m) l c) (if b then p else q)
  chosen_ok true n m k l c p q one other = one
  chosen_ok false n m k l c p q one other = other

  module _ (body : Statements) (at after k : ℕ) (c : List ℕ) (later : Next)
      (within : at + 1 < length g)
      (here : place_at g (at + 1) ≡ to_either (node.Branch Repeat) (first_node (at + 2) (at + 1) body) after)
      (inner : Follows body (at + 2) (at + 1) after)
      (room : at + 2 + node_count body ≤ length c)
      (leads : Leads at k c after later) where
    turns_ok : (n : ℕ) (l : Locals) (d : List ℕ) → KeepsCounts at c d → slice_index_or d (at + 1) 0 ≡ n
        → Says g (k + 1 + n * (1 + steps body)) (spot (at + 1) l d) (turns n (λ turn. meaning body turn later) later l)
    turns_ok zero l d kept e =
        let goes : move g (spot (at + 1) l d) ≡ Goes (spot after l d) =
        move_is g (at + 1) l d _ here ∙ ap (λ n. Goes (after_repeat n (spot (at + 1) l d) (first_node (at + 2) (at + 1) body) after)) e in
        says_up g (suc k) _ _ _ (omega arith) (says_next g k (spot (at + 1) l d) within (spot after l d) (later l) goes (leads l d kept))
    turns_ok (suc n) l d kept e =
        let d1 = slice_set d (at + 1) n in
        let goes : move g (spot (at + 1) l d) ≡ Goes (spot (first_node (at + 2) (at + 1) body) l d1) =
        move_is g (at + 1) l d _ here ∙ ap (λ n. Goes (after_repeat n (spot (at + 1) l d) (first_node (at + 2) (at + 1) body) after)) e in
        let j = k + 1 + n * (1 + steps body) in
        let kept1 : KeepsCounts at c d1 = kept_also at at c d d1 (omega arith) kept (kept_set at (at + 1) n d (omega arith)) in
        let inside : at + 1 < length d = omega (arith, kept.long) in
        let more = turns n (λ turn. meaning body turn later) later in
        let again_ok : Leads (at + 2) j d1 (at + 1) more =
        λ l e w. turns_ok n l e (kept_also at (at + 2) c d1 e (omega arith) kept1 w)
        (w.below (at + 1) (omega arith) ∙ get_or-set_same d (at + 1) n 0 inside) in
        let out_ok : Leads (at + 2) j d1 after later = leads_less at (at + 2) k j c d1 after later (omega arith) (omega arith) kept1 leads in
        let whole = inner j d1 more later (omega (arith, kept1.long)) again_ok out_ok l in
        says_up g (suc (j + steps body)) _ _ _ (omega (arith, product n (1 + steps body)))
        (says_next g (j + steps body) (spot (at + 1) l d) within (spot (first_node (at + 2) (at + 1) body) l d1) _ goes whole)

  follows : (b : Statements) (at next out : ℕ) → Stands g at (places_of at next out b) → Follows b at next out
  follows end at next out h k c sequel leaves room to_next to_out l = says_up g k (k + 0) _ _ (omega arith) (to_next l c (kept_same at c))
  follows (assign x e rest) at next out h k c sequel leaves room to_next to_out l =
      let l1 = slice_set l x (expr_value l e) in
      let next_ok = leads_on at (at + 1) k k c next sequel (omega arith) (omega arith) to_next in
      let out_ok = leads_on at (at + 1) k k c out leaves (omega arith) (omega arith) to_out in
      let rest_ok = follows rest (at + 1) next out h.2 k c sequel leaves (omega arith) next_ok out_ok l1 in
      says_up g (suc (k + steps rest)) _ _ _ (omega arith)
      (says_next g (k + steps rest) (spot at l c) h.0 (spot (first_node (at + 1) next rest) l1 c) _ (move_is g at l c _ h.1) rest_ok)
  follows (command q rest) at next out h k c sequel leaves room to_next to_out l =
      let next_ok = leads_on at (at + 1) k k c next sequel (omega arith) (omega arith) to_next in
      let out_ok = leads_on at (at + 1) k k c out leaves (omega arith) (omega arith) to_out in
      let rest_ok = follows rest (at + 1) next out h.2 k c sequel leaves (omega arith) next_ok out_ok l in
      says_up g (suc (k + steps rest)) _ _ _ (omega arith)
      (says_call g (k + steps rest) (spot at l c) h.0 (request_of l q)
      (spot (first_node (at + 1) next rest) l c) _ (move_is g at l c _ h.1) rest_ok)
  follows (query x q rest) at next out h k c sequel leaves room to_next to_out l =
      let same : at + 1 + 1 ≡ at + 2 = omega arith in
      let stood : Stands g (at + 2) (places_of (at + 2) next out rest) =
      subst (λ n. Stands g n (places_of (at + 2) next out rest)) same h.2.2 in
      let next_ok = leads_on at (at + 2) k k c next sequel (omega arith) (omega arith) to_next in
      let out_ok = leads_on at (at + 2) k k c out leaves (omega arith) (omega arith) to_out in
      let rest_ok = λ (v : ℤ). follows rest (at + 2) next out stood k c sequel leaves (omega arith) next_ok out_ok (slice_set l x v) in
      let asked = says_query g (k + steps rest) (spot (at + 1) l c) h.2.0 (request_of l q)
      (λ v. spot (first_node (at + 2) next rest) (slice_set l x v) c) _ (move_is g (at + 1) l c _ h.2.1) rest_ok in
      says_up g (suc (suc (k + steps rest))) _ _ _ (omega arith)
      (says_sync g (suc (k + steps rest)) (spot at l c) h.0 q.object (spot (at + 1) l c) _ (move_is g at l c _ h.1) asked)
  follows (choose t b first other rest) at next out h k c sequel leaves room to_next to_out l =
      let at_other = at + 1 + node_count first in
      let at_rest = at_other + node_count other in
      let after = first_node at_rest next rest in
      let later = meaning rest sequel leaves in
      let j = k + steps rest in
      let xs = places_of (at + 1) after out first in
      let ys = places_of at_other after out other in
      let zs = places_of at_rest next out rest in
      let others = stands_rest g (at + 1) (node_count first) xs (ys ++ zs) (length_places (at + 1) after out first) h.2 in
      let in_rest = stands_rest g at_other (node_count other) ys zs (length_places at_other after out other) others in
      let later_ok : Leads at j c after later = λ l d kept.
      follows rest at_rest next out in_rest k d sequel leaves (omega (arith, kept.long))
      (leads_less at at_rest k k c d next sequel (omega arith) (omega arith) kept to_next)
      (leads_less at at_rest k k c d out leaves (omega arith) (omega arith) kept to_out) l in
      let first_ok = follows first (at + 1) after out (stands_first g (at + 1) xs (ys ++ zs) h.2) j c later leaves (omega arith)
      (leads_on at (at + 1) j j c after later (omega arith) (omega arith) later_ok)
      (leads_on at (at + 1) k j c out leaves (omega arith) (omega arith) to_out) l in
      let other_ok = follows other at_other after out (stands_first g at_other ys zs others) j c later leaves (omega arith)
      (leads_on at at_other j j c after later (omega arith) (omega arith) later_ok)
      (leads_on at at_other k j c out leaves (omega arith) (omega arith) to_out) l in
      let m = j + max (steps first) (steps other) in
      let n1 = first_node (at + 1) after first in
      let n2 = first_node at_other after other in
      let either = chosen_ok (test_value l t) n1 n2 m l c _ _
      (says_up g (j + steps first) m _ _ (omega arith) first_ok) (says_up g (j + steps other) m _ _ (omega arith) other_ok) in
      says_up g (suc m) _ _ _ (omega arith)
      (says_next g m (spot at l c) h.0 (spot (if test_value l t then n1 else n2) l c) _ (move_is g at l c _ h.1) either)
  follows (again n body rest) at next out h k c sequel leaves room to_next to_out l =
      let at_rest = at + 2 + node_count body in
      let after = first_node at_rest next rest in
      let later = meaning rest sequel leaves in
      let j = k + steps rest in
      let same : at + 1 + 1 ≡ at + 2 = omega arith in
      let xs = places_of (at + 2) (at + 1) after body in
      let zs = places_of at_rest next out rest in
      let stood : Stands g (at + 2) (xs ++ zs) = subst (λ n. Stands g n (xs ++ zs)) same h.2.2 in
      let in_body = stands_first g (at + 2) xs zs stood in
      let in_rest = stands_rest g (at + 2) (node_count body) xs zs (length_places (at + 2) (at + 1) after body) stood in
      let later_ok : Leads at j c after later = λ l d kept.
      follows rest at_rest next out in_rest k d sequel leaves (omega (arith, kept.long))
      (leads_less at at_rest k k c d next sequel (omega arith) (omega arith) kept to_next)
      (leads_less at at_rest k k c d out leaves (omega arith) (omega arith) kept to_out) l in
      let inside : at + 1 < length c = omega arith in
      let m = j + 1 + n * (1 + steps body) in
      let loop = turns_ok body at after j c later h.2.0 h.2.1 (follows body (at + 2) (at + 1) after in_body) (omega arith) later_ok
      n l (slice_set c (at + 1) n) (kept_set at (at + 1) n c (omega arith)) (get_or-set_same c (at + 1) n 0 inside) in
      says_up g (suc m) _ _ _ (omega arith)
      (says_next g m (spot at l c) h.0 (spot (at + 1) l (slice_set c (at + 1) n)) _ (move_is g at l c _ h.1) loop)
  follows (leave rest) at next out h k c sequel leaves room to_next to_out l =
      says_up g (suc k) _ _ _ (omega arith)
      (says_next g k (spot at l c) h.0 (spot out l c) _ (move_is g at l c _ h.1) (to_out l c (kept_same at c)))

pub block_says : (b : Statements) (l : Locals) (counts : List ℕ) → length (block_graph b) ≤ length counts
    → Says (block_graph b) (whole_steps b) (entry l counts) (synced_of b l)
block_says b l counts room =
    let g = block_graph b in
    let last = 1 + node_count b in
    let beginning = to node.Entry (first_node 1 last b) in
    let inner = places_of 1 last last b in
    let whole : Stands g 1 (inner ++ exit ∷ []) = stands_in (beginning ∷ []) (inner ++ exit ∷ []) in
    let at_exit = stands_rest g 1 (node_count b) inner (exit ∷ []) (length_places 1 last last b) whole in
    let over : Leads g 1 1 counts last Done = λ l d kept. says_done g 0 (spot last l d) at_exit.0 (move_is g last l d exit at_exit.1) in
    let long : 1 + node_count b ≤ length counts = omega (arith, length_places 1 last last b, simp length-append at room) in
    let block_ok = follows g b 1 last last (stands_first g 1 inner (exit ∷ []) whole) 1 counts Done Done long over over l in
    says_up g (suc (1 + steps b)) (2 + steps b) _ _ (omega arith)
    (says_next g (1 + steps b) (spot 0 l counts) (omega arith)
    (spot (first_node 1 last b) l counts) _ (move_is g 0 l counts beginning refl) block_ok)
