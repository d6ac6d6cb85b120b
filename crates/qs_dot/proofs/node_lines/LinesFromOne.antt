-- No node of a script has a line below 1: each takes the line of an anchor that is there. There are as many lines as
-- anchors, and each part of the tree has at least as many entries left as it has anchors. By induction on the tree, the
-- blocks and the items.
use Rattle.qs_dot.proofs.Common.{◌≡◌, ◌<◌, ◌≤◌, ℕ, zero, suc, ◌+◌, Bool, true, false, if◌then◌else◌, nat_eq, List, [], ◌∷◌, ◌++◌, length, drop, map, ap, sym, ◌∙◌, length-append, length-drop, arith}
use Rattle.qs_dot.proofs.Common.{AllByRecursion, each_join, length-map, Block, Item, Object, Client, Template, Started, Stmts, end, command, query, assign, choose, choose_else, again, leave, Name}
use Rattle.qs_dot.proofs.Common.{same_name, Token, anchor_token, anchors, block_anchors, blocks_anchors, call_anchors, expr_anchors, formal_anchor, item_anchors, script_anchors, test_anchors}
use Rattle.qs_dot.proofs.Common.{anchor_lines, anchors_from, its_line, its_token, line_anchors, numbered, placed_anchors, LinesFromOne, anchor_count, block_nodes, blocks_nodes, clients_nodes}
use Rattle.qs_dot.proofs.Common.{first_entry, statement_nodes, template_nodes}
use Rattle.qs_check.specs.declared.anchors.anchor.Anchor.TheVariants as m
use Rattle.qs_dot.proofs.node_lines.Counts.{same_count}
use Rattle.qs_dot.proofs.node_lines.LineTokens.{anchors_have_lines}

abbrev FromOne : List ℕ → Type 0
FromOne es = AllByRecursion (λ e. 1 ≤ e) es

-- there are so many entries at least, and none is below 1
abbrev Enough : ℕ → List ℕ → Type 0
Enough count es = (count ≤ length es) × FromOne es

first : (n : ℕ) (es : List ℕ) → 0 < n → Enough n es → 1 ≤ first_entry es
first n [] some h = absurd (omega (arith, some, h.0))
first n (e ∷ es) some h = h.1.0

dropped : (n : ℕ) (es : List ℕ) → FromOne es → FromOne (drop n es)
dropped zero es h = h
dropped (suc n) [] h = h
dropped (suc n) (e ∷ es) h = dropped n es h.1

-- what is left after so many
left : (n count : ℕ) (es : List ℕ) → Enough (n + count) es → Enough count (drop n es)
left n count es h = (omega (arith, h.0, length-drop n es), dropped n es h.1)

fewer : (n count : ℕ) (es : List ℕ) → n ≤ count → Enough count es → Enough n es
fewer n count es less h = (omega (arith, less, h.0), h.1)

as_many : (n count : ℕ) (es : List ℕ) → count ≡ n → Enough count es → Enough n es
as_many n count es e h = fewer n count es (omega (arith, e)) h

statements : (es : List ℕ) (s : Stmts) → Enough (anchor_count s) es → FromOne (statement_nodes es s)
statements es end h = tt
statements es (command c rest) h =
    let call = call_anchors false c in (
      first (anchor_count (command c rest)) es (omega arith) h,
      statements (drop (length call) es) rest
          (left (length call) (anchor_count rest) es (as_many (length call + anchor_count rest) (anchor_count (command c rest)) es (length-append call (anchors false rest)) h)),
    )
statements es (query x c rest) h =
    let call = call_anchors true c in
    let one = first (anchor_count (query x c rest)) es (omega arith) h in (
      one,
      (
        one,
        statements (drop (1 + length call) es) rest
            (left (1 + length call) (anchor_count rest) es (as_many (1 + length call + anchor_count rest) (anchor_count (query x c rest)) es (omega (arith, length-append call (anchors false rest))) h)),
      ),
    )
statements es (assign x e rest) h =
    let value = expr_anchors e in (
      first (anchor_count (assign x e rest)) es (omega arith) h,
      statements (drop (1 + length value) es) rest
          (left (1 + length value) (anchor_count rest) es (as_many (1 + length value + anchor_count rest) (anchor_count (assign x e rest)) es (omega (arith, length-append value (anchors false rest))) h)),
    )
statements es (choose t one rest) h =
    let inside = drop (length (test_anchors t)) es in
    let a = anchor_count one in
    let b = anchor_count rest in
    let in_it : Enough (a + b) inside = left 2 (a + b) es (as_many (2 + (a + b)) (anchor_count (choose t one rest)) es (omega (arith, length-append (anchors false one) (anchors false rest))) h) in (
      first (anchor_count (choose t one rest)) es (omega arith) h,
      each_join (λ e. 1 ≤ e) (statement_nodes inside one) (statement_nodes (drop a inside) rest)
          (statements inside one (fewer a (a + b) inside (omega arith) in_it)) (statements (drop a inside) rest (left a b inside in_it)),
    )
statements es (choose_else t one other rest) h =
    let inside = drop (length (test_anchors t)) es in
    let a = anchor_count one in
    let b = anchor_count other in
    let d = anchor_count rest in
    let otherwise = drop a inside in
    let in_it : Enough (a + (b + d)) inside =
    left 2 (a + (b + d)) es (as_many (2 + (a + (b + d))) (anchor_count (choose_else t one other rest)) es
    (omega (arith, length-append (anchors false one) (anchors false other ++ anchors false rest), length-append (anchors false other) (anchors false rest))) h) in
    let after_it : Enough (b + d) otherwise = left a (b + d) inside in_it in (
      first (anchor_count (choose_else t one other rest)) es (omega arith) h,
      each_join (λ e. 1 ≤ e) (statement_nodes inside one) (statement_nodes otherwise other ++ statement_nodes (drop b otherwise) rest)
          (statements inside one (fewer a (a + (b + d)) inside (omega arith) in_it))
          (each_join (λ e. 1 ≤ e) (statement_nodes otherwise other) (statement_nodes (drop b otherwise) rest)
          (statements otherwise other (fewer b (b + d) otherwise (omega arith) after_it)) (statements (drop b otherwise) rest (left b d otherwise after_it))),
    )
statements es (again n body rest) h =
    let inside = drop 1 es in
    let a = anchor_count body in
    let b = anchor_count rest in
    let in_it : Enough (a + b) inside =
    left 1 (a + b) es (as_many (1 + (a + b)) (anchor_count (again n body rest)) es (omega (arith, length-append (anchors true body) (anchors false rest), same_count true false body)) h) in
    let one = first (anchor_count (again n body rest)) es (omega arith) h in (
      one,
      (
        one,
        each_join (λ e. 1 ≤ e) (statement_nodes inside body) (statement_nodes (drop a inside) rest)
            (statements inside body (fewer a (a + b) inside (omega arith) in_it)) (statements (drop a inside) rest (left a b inside in_it)),
      ),
    )
statements es (leave rest) h = (
  first (anchor_count (leave rest)) es (omega arith) h,
  statements (drop 1 es) rest (left 1 (anchor_count rest) es (as_many (1 + anchor_count rest) (anchor_count (leave rest)) es (omega arith) h)),
)

abbrev EachFromOne : List (List ℕ) → Type 0
EachFromOne ls = AllByRecursion FromOne ls

block : (es : List ℕ) (b : Block) → Enough (length (block_anchors b)) es → FromOne (block_nodes es b)
block es b h =
    let count = 1 + length b.reserved in
    let sum : length (block_anchors b) ≡ count + anchor_count b.body =
    omega (arith, length-append (map m.Listed b.reserved) (anchors false b.body), length-map b.reserved m.Listed) in (
      first (length (block_anchors b)) es (omega arith) h,
      statements (drop count es) b.body (left count (anchor_count b.body) es (as_many (count + anchor_count b.body) (length (block_anchors b)) es sum h)),
    )

blocks : (es : List ℕ) (bs : List Block) → Enough (length (blocks_anchors bs)) es → EachFromOne (blocks_nodes es bs)
blocks es [] h = tt
blocks es (b ∷ bs) h =
    let one = length (block_anchors b) in
    let others = length (blocks_anchors bs) in
    let all = as_many (one + others) (length (blocks_anchors (b ∷ bs))) es (length-append (block_anchors b) (blocks_anchors bs)) h in
    (block es b (fewer one (one + others) es (omega arith) all), blocks (drop one es) bs (left one others es all))

-- what is left after an item
after_item : (es : List ℕ) (i : Item) (is : List Item) → Enough (length (script_anchors (i ∷ is))) es
    → Enough (length (script_anchors is)) (drop (length (item_anchors i)) es)
after_item es i is h =
    left (length (item_anchors i)) (length (script_anchors is)) es
    (as_many (length (item_anchors i) + length (script_anchors is)) (length (script_anchors (i ∷ is))) es (length-append (item_anchors i) (script_anchors is)) h)

at_item : (es : List ℕ) (i : Item) (is : List Item) → Enough (length (script_anchors (i ∷ is))) es → Enough (length (item_anchors i)) es
at_item es i is h =
    fewer (length (item_anchors i)) (length (script_anchors (i ∷ is))) es (omega (arith, length-append (item_anchors i) (script_anchors is))) h

either : (is : Bool) (here there : List (List ℕ)) → EachFromOne here → EachFromOne there → EachFromOne (if is then here else there)
either true here there h g = h
either false here there h g = g

templates : (es : List ℕ) (items : List Item) (n : Name) → Enough (length (script_anchors items)) es → EachFromOne (template_nodes es items n)
templates es [] n h = tt
templates es (Object o ∷ is) n h = templates (drop (length (item_anchors (Object o))) es) is n (after_item es (Object o) is h)
templates es (Client c ∷ is) n h = templates (drop (length (item_anchors (Client c))) es) is n (after_item es (Client c) is h)
templates es (Template t ∷ is) n h =
    let count = 1 + length t.formals in
    let sum : length (item_anchors (Template t)) ≡ count + length (blocks_anchors t.blocks) =
    omega (arith, length-append (map formal_anchor t.formals) (blocks_anchors t.blocks), length-map t.formals formal_anchor) in
    let inside = left count (length (blocks_anchors t.blocks)) es
    (as_many (count + length (blocks_anchors t.blocks)) (length (item_anchors (Template t))) es sum (at_item es (Template t) is h)) in
    either (same_name n t.name) (blocks_nodes (drop count es) t.blocks) (template_nodes (drop (length (item_anchors (Template t))) es) is n)
    (blocks (drop count es) t.blocks inside) (templates (drop (length (item_anchors (Template t))) es) is n (after_item es (Template t) is h))
templates es (Started c ∷ is) n h = templates (drop (length (item_anchors (Started c))) es) is n (after_item es (Started c) is h)

clients : (of_template : Name → List (List ℕ)) → ((n : Name) → EachFromOne (of_template n)) → (es : List ℕ) (items : List Item) → Enough (length (script_anchors items)) es
    → AllByRecursion EachFromOne (clients_nodes of_template es items)
clients of_template of es [] h = tt
clients of_template of es (Object o ∷ is) h = clients of_template of (drop (length (item_anchors (Object o))) es) is (after_item es (Object o) is h)
clients of_template of es (Client c ∷ is) h = (
  blocks (drop 1 es) c.blocks (left 1 (length (blocks_anchors c.blocks)) es (as_many (1 + length (blocks_anchors c.blocks)) (length (item_anchors (Client c))) es (omega arith) (at_item es (Client c) is h))),
  clients of_template of (drop (length (item_anchors (Client c))) es) is (after_item es (Client c) is h),
)
clients of_template of es (Template t ∷ is) h = clients of_template of (drop (length (item_anchors (Template t))) es) is (after_item es (Template t) is h)
clients of_template of es (Started c ∷ is) h =
    (of c.template, clients of_template of (drop (length (item_anchors (Started c))) es) is (after_item es (Started c) is h))

-- the lines of a text's anchors begin with 1
of_line : (n : ℕ) (ts : List Token) → 1 ≤ n → FromOne (map its_line (map (λ t. (t, n)) ts))
of_line n [] h = tt
of_line n (t ∷ ts) h = (h, of_line n ts h)

lines_joined : (xs ys : List (Token × ℕ)) → FromOne (map its_line xs) → FromOne (map its_line ys) → FromOne (map its_line (xs ++ ys))
lines_joined [] ys h k = k
lines_joined (x ∷ xs) ys h k = (h.0, lines_joined xs ys h.1 k)

byte : (is : Bool) (here ended : List (Token × ℕ)) → FromOne (map its_line ended) → FromOne (map its_line here) → FromOne (map its_line (if is then ended else here))
byte true here ended h g = h
byte false here ended h g = g

lines : (text : List ℕ) (n : ℕ) (begun : List ℕ) → 1 ≤ n → FromOne (map its_line (anchors_from n begun text))
lines [] n begun h = of_line n (line_anchors begun) h
lines (b ∷ bs) n begun h =
    byte (nat_eq b 10) (anchors_from n (begun ++ b ∷ []) bs) (numbered n begun ++ anchors_from (n + 1) [] bs)
    (lines_joined (numbered n begun) (anchors_from (n + 1) [] bs) (of_line n (line_anchors begun) h) (lines bs (n + 1) [] (omega arith)))
    (lines bs n (begun ++ b ∷ []) h)

pub lines_from_one : LinesFromOne
lines_from_one text items is =
    let placed = placed_anchors text in
    let count : length (script_anchors items) ≡ length (anchor_lines text) =
    sym (length-map placed its_line ∙ sym (length-map placed its_token) ∙ ap length (anchors_have_lines text items is) ∙ length-map (script_anchors items) anchor_token) in
    let enough : Enough (length (script_anchors items)) (anchor_lines text) = (omega (arith, count), lines text 1 [] (omega arith)) in
    clients (template_nodes (anchor_lines text) items) (λ n. templates (anchor_lines text) items n enough) (anchor_lines text) items enough
