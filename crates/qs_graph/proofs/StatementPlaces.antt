-- The nodes of a list of statements stand in a graph one after another from a number on, and so do both parts of a list
-- that is cut in two. The proofs on building a graph and on walking through it find each node by this. It goes by
-- induction on the list of nodes.
use Rattle.std.proofs.Common.{◌≡◌, ℕ, ◌+◌, ◌<◌, List, [], ◌∷◌, ◌++◌, length, refl, arith, append_assoc, length-append, subst}
use Rattle.qs_program.specs.audit.Statements.{Statements, end, command, query, assign, choose, again, leave}
use Rattle.qs_graph.specs.audit.Nodes.{GraphNode, place_at}
use Rattle.qs_graph.specs.audit.Graphs.{node_count, first_node, places_of}

-- the places stand in the graph from a number on
abbrev pub Stands : List GraphNode → ℕ → List GraphNode → Type 0
Stands g at [] = Unit {0}
Stands g at (p ∷ ps) = (at < length g) × (place_at g at ≡ p) × Stands g (at + 1) ps

pub length_places : (at next out : ℕ) (b : Statements) → length (places_of at next out b) ≡ node_count b
length_places at next out end = refl
length_places at next out (command c rest) = omega (arith, length_places (at + 1) next out rest)
length_places at next out (query x c rest) = omega (arith, length_places (at + 2) next out rest)
length_places at next out (assign x e rest) = omega (arith, length_places (at + 1) next out rest)
length_places at next out (choose t b first other rest) =
    let at_other = at + 1 + node_count first in
    let at_rest = at_other + node_count other in
    let after = first_node at_rest next rest in
    let ys = places_of at_other after out other in
    let zs = places_of at_rest next out rest in
    omega (
      arith,
      length-append (places_of (at + 1) after out first) (ys ++ zs),
      length-append ys zs,
      length_places (at + 1) after out first,
      length_places at_other after out other,
      length_places at_rest next out rest,
    )
length_places at next out (again n body rest) =
    let at_rest = at + 2 + node_count body in
    let after = first_node at_rest next rest in
    let xs = places_of (at + 2) (at + 1) after body in
    omega (arith, length-append xs (places_of at_rest next out rest), length_places (at + 2) (at + 1) after body, length_places at_rest next out rest)
length_places at next out (leave rest) = omega (arith, length_places (at + 1) next out rest)

pub stands_first : (g : List GraphNode) (at : ℕ) (xs ys : List GraphNode) → Stands g at (xs ++ ys) → Stands g at xs
stands_first g at [] ys h = tt
stands_first g at (x ∷ xs) ys h = (h.0, h.1, stands_first g (at + 1) xs ys h.2)

pub stands_rest : (g : List GraphNode) (at n : ℕ) (xs ys : List GraphNode) → length xs ≡ n → Stands g at (xs ++ ys) → Stands g (at + n) ys
stands_rest g at n [] ys e h = let same : at ≡ at + n = omega arith in rw (← same) h
stands_rest g at n (x ∷ xs) ys e h =
    let same : (at + 1) + length xs ≡ at + n = omega arith in
    rw (← same) (stands_rest g (at + 1) (length xs) xs ys refl h.2)

pub at_end : (pre : List GraphNode) (p : GraphNode) (ps : List GraphNode) → place_at (pre ++ p ∷ ps) (length pre) ≡ p
at_end [] p ps = refl
at_end (q ∷ pre) p ps = at_end pre p ps

pub stands_in : (pre ps : List GraphNode) → Stands (pre ++ ps) (length pre) ps
stands_in pre [] = tt
stands_in pre (p ∷ ps) =
    let same : (pre ++ p ∷ []) ++ ps ≡ pre ++ p ∷ ps = append_assoc pre (p ∷ []) ps in
    let long : length (pre ++ p ∷ []) ≡ length pre + 1 = length-append pre (p ∷ []) in
    let more : Stands ((pre ++ p ∷ []) ++ ps) (length (pre ++ p ∷ [])) ps = stands_in (pre ++ p ∷ []) ps in (
      omega (arith, length-append pre (p ∷ ps)),
      at_end pre p ps,
      subst (λ n. Stands (pre ++ p ∷ ps) n ps) long (subst (λ g. Stands g (length (pre ++ p ∷ [])) ps) same more),
    )
