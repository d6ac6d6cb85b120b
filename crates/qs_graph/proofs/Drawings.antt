-- The graph of a block, as it is numbered, is the only one that is drawn from the block: the places of statements stand
-- in a graph exactly where the statements are drawn there.
use Rattle.std.proofs.Common.{◌≡◌, ℕ, ◌+◌, List, [], ◌∷◌, ◌++◌, length, refl, sym, ap, ◌∙◌, arith, subst, append_assoc, length-append}
use Rattle.qs_program.specs.audit.Statements.{Statements, end, command, query, assign, choose, again, leave}
use Rattle.qs_graph.specs.declared.node.Node.TheVariants.{Entry, Local, Branch, Query, Call}
use Rattle.qs_graph.specs.declared.node.Action.TheVariants.{Assign}
use Rattle.qs_graph.specs.declared.node.Choice.TheVariants.{If, Repeat}
use Rattle.qs_graph.specs.audit.Nodes.{GraphNode, place_at, to, to_either, exit}
use Rattle.qs_graph.specs.audit.Graphs.{node_count, first_node, places_of, block_graph}
use Rattle.qs_graph.specs.Drawn.{AreDrawn, IsDrawing, GraphsAreDrawings}
use Rattle.qs_graph.proofs.StatementPlaces.{Stands, at_end, length_places, stands_first, stands_rest, stands_in}

stands_joined : (g : List GraphNode) (at n : ℕ) (xs ys : List GraphNode) → length xs ≡ n → Stands g at xs → Stands g (at + n) ys → Stands g at (xs ++ ys)
stands_joined g at n [] ys e h w = let same : at + n ≡ at = omega arith in rw (← same) w
stands_joined g at n (x ∷ xs) ys e h w =
    let same : at + n ≡ (at + 1) + length xs = omega arith in
    (h.0, h.1, stands_joined g (at + 1) (length xs) xs ys refl h.2 (subst (λ m. Stands g m ys) same w))

-- a graph is the list that stands in the whole of it
stands_whole : (pre g ps : List GraphNode) → Stands (pre ++ g) (length pre) ps → length g ≡ length ps → g ≡ ps
stands_whole pre [] [] h e = refl
stands_whole pre (q ∷ g) (p ∷ ps) h e =
    let same : (pre ++ q ∷ []) ++ g ≡ pre ++ q ∷ g = append_assoc pre (q ∷ []) g in
    let long : length pre + 1 ≡ length (pre ++ q ∷ []) = sym (length-append pre (q ∷ [])) in
    let more : Stands ((pre ++ q ∷ []) ++ g) (length (pre ++ q ∷ [])) ps =
    subst (λ m. Stands ((pre ++ q ∷ []) ++ g) m ps) long (subst (λ (l : List GraphNode). Stands l (length pre + 1) ps) (sym same) h.2) in
    let first : q ≡ p = sym (at_end pre q g) ∙ h.1 in
    let rest : g ≡ ps = stands_whole (pre ++ q ∷ []) g ps more (omega (arith, e)) in
    ap (λ r. r ∷ g) first ∙ ap (λ l. p ∷ l) rest
stands_whole pre _ _ h e = absurd (omega (arith, e))

module _ (g : List GraphNode) where
  -- what stands is drawn
  drawn : (b : Statements) (at past next out : ℕ) → past ≡ at + node_count b → Stands g at (places_of at next out b)
      → AreDrawn g b at past (first_node at next b) next out
  drawn end at past next out e h = (omega (arith, e), refl)
  drawn (assign x v rest) at past next out e h =
      (first_node (at + 1) next rest, refl, (h.0, h.1), drawn rest (at + 1) past next out (omega (arith, e)) h.2)
  drawn (command c rest) at past next out e h =
      (first_node (at + 1) next rest, refl, (h.0, h.1), drawn rest (at + 1) past next out (omega (arith, e)) h.2)
  drawn (leave rest) at past next out e h =
      (first_node (at + 1) next rest, refl, (h.0, h.1), drawn rest (at + 1) past next out (omega (arith, e)) h.2)
  drawn (query x c rest) at past next out e h =
      let two : at + 1 + 1 ≡ at + 2 = omega arith in
      let later = subst (λ n. Stands g n (places_of (at + 2) next out rest)) two h.2.2 in
      (first_node (at + 2) next rest, refl, (h.0, h.1), (h.2.0, h.2.1), drawn rest (at + 2) past next out (omega (arith, e)) later)
  drawn (choose t has one other rest) at past next out e h =
      let at_other = at + 1 + node_count one in
      let at_rest = at_other + node_count other in
      let after = first_node at_rest next rest in
      let xs = places_of (at + 1) after out one in
      let ys = places_of at_other after out other in
      let zs = places_of at_rest next out rest in
      let others = stands_rest g (at + 1) (node_count one) xs (ys ++ zs) (length_places (at + 1) after out one) h.2 in
      let rests = stands_rest g at_other (node_count other) ys zs (length_places at_other after out other) others in (
        at_other,
        at_rest,
        first_node (at + 1) after one,
        first_node at_other after other,
        after,
        refl,
        (h.0, h.1),
        drawn one (at + 1) at_other after out refl (stands_first g (at + 1) xs (ys ++ zs) h.2),
        drawn other at_other at_rest after out refl (stands_first g at_other ys zs others),
        drawn rest at_rest past next out (omega (arith, e)) rests,
      )
  drawn (again n body rest) at past next out e h =
      let at_rest = at + 2 + node_count body in
      let after = first_node at_rest next rest in
      let xs = places_of (at + 2) (at + 1) after body in
      let zs = places_of at_rest next out rest in
      let two : at + 1 + 1 ≡ at + 2 = omega arith in
      let later = subst (λ m. Stands g m (xs ++ zs)) two h.2.2 in
      let rests = stands_rest g (at + 2) (node_count body) xs zs (length_places (at + 2) (at + 1) after body) later in (
        at_rest,
        first_node (at + 2) (at + 1) body,
        after,
        refl,
        (h.0, h.1),
        (h.2.0, h.2.1),
        drawn body (at + 2) at_rest (at + 1) after refl (stands_first g (at + 2) xs zs later),
        drawn rest at_rest past next out (omega (arith, e)) rests,
      )

  -- what is drawn has as many numbers as there are nodes, begins where the definition says, and stands there
  record Placed (b : Statements) (at past first next out : ℕ) : Type 0 where
    past_is : past ≡ at + node_count b
    first_is : first ≡ first_node at next b
    stands : Stands g at (places_of at next out b)

  placed : (b : Statements) (at past first next out : ℕ) → AreDrawn g b at past first next out → Placed b at past first next out
  placed end at past first next out (e, f) = record { past_is = omega (arith, e); first_is = f; stands = tt }
  placed (assign x v rest) at past first next out (after, f, node, more) =
      let r = placed rest (at + 1) past after next out more in
      record {
        past_is = omega (arith, r.past_is);
        first_is = f;
        stands = (node.0, node.1 ∙ ap (λ n. to (Local (Assign x v)) n) r.first_is, r.stands);
      }
  placed (command c rest) at past first next out (after, f, node, more) =
      let r = placed rest (at + 1) past after next out more in
      record {
        past_is = omega (arith, r.past_is);
        first_is = f;
        stands = (node.0, node.1 ∙ ap (λ n. to (Call c) n) r.first_is, r.stands);
      }
  placed (leave rest) at past first next out (after, f, node, more) =
      let r = placed rest (at + 1) past after next out more in
      record { past_is = omega (arith, r.past_is); first_is = f; stands = (node.0, node.1, r.stands) }
  placed (query x c rest) at past first next out (after, f, sync, node, more) =
      let r = placed rest (at + 2) past after next out more in
      let two : at + 2 ≡ at + 1 + 1 = omega arith in
      record {
        past_is = omega (arith, r.past_is);
        first_is = f;
        stands = (
          sync.0,
          sync.1,
          (
            node.0,
            node.1 ∙ ap (λ n. to (Query x c) n) r.first_is,
            subst (λ n. Stands g n (places_of (at + 2) next out rest)) two r.stands,
          ),
        );
      }
  placed (choose t has one other rest) at past first next out (middle, rest_at, inside, otherwise, after, f, node, ones, others, more) =
      let at_other = at + 1 + node_count one in
      let at_rest = at_other + node_count other in
      let later = first_node at_rest next rest in
      let r = placed rest rest_at past after next out more in
      let o = placed other middle rest_at otherwise after out others in
      let i = placed one (at + 1) middle inside after out ones in
      let middle_is : middle ≡ at_other = i.past_is in
      let rest_is : rest_at ≡ at_rest = o.past_is ∙ ap (λ n. n + node_count other) middle_is in
      let after_is : after ≡ later = r.first_is ∙ ap (λ n. first_node n next rest) rest_is in
      let inside_is : inside ≡ first_node (at + 1) later one = i.first_is ∙ ap (λ n. first_node (at + 1) n one) after_is in
      let otherwise_is : otherwise ≡ first_node at_other later other =
      o.first_is ∙ ap (λ n. first_node n after other) middle_is ∙ ap (λ n. first_node at_other n other) after_is in
      let xs = places_of (at + 1) later out one in
      let ys = places_of at_other later out other in
      let zs = places_of at_rest next out rest in
      let stands_x : Stands g (at + 1) xs = subst (λ n. Stands g (at + 1) (places_of (at + 1) n out one)) after_is i.stands in
      let stands_y : Stands g at_other ys =
      subst (λ n. Stands g at_other (places_of at_other n out other)) after_is
      (subst (λ n. Stands g n (places_of n after out other)) middle_is o.stands) in
      let stands_z : Stands g at_rest zs = subst (λ n. Stands g n (places_of n next out rest)) rest_is r.stands in
      let here : to_either (Branch (If t)) inside otherwise
      ≡ to_either (Branch (If t)) (first_node (at + 1) later one) (first_node at_other later other) =
      λ k. to_either (Branch (If t)) (inside_is k) (otherwise_is k) in
      let joined = stands_joined g at_other (node_count other) ys zs (length_places at_other later out other) stands_y stands_z in
      record {
        past_is = omega (arith, r.past_is, rest_is);
        first_is = f;
        stands = (
          node.0,
          node.1 ∙ here,
          stands_joined g (at + 1) (node_count one) xs (ys ++ zs) (length_places (at + 1) later out one) stands_x joined,
        );
      }
  placed (again n body rest) at past first next out (rest_at, inside, after, f, count, node, bodies, more) =
      let at_rest = at + 2 + node_count body in
      let later = first_node at_rest next rest in
      let r = placed rest rest_at past after next out more in
      let i = placed body (at + 2) rest_at inside (at + 1) after bodies in
      let rest_is : rest_at ≡ at_rest = i.past_is in
      let after_is : after ≡ later = r.first_is ∙ ap (λ m. first_node m next rest) rest_is in
      let xs = places_of (at + 2) (at + 1) later body in
      let zs = places_of at_rest next out rest in
      let stands_x : Stands g (at + 2) xs = subst (λ m. Stands g (at + 2) (places_of (at + 2) (at + 1) m body)) after_is i.stands in
      let stands_z : Stands g at_rest zs = subst (λ m. Stands g m (places_of m next out rest)) rest_is r.stands in
      let here : to_either (Branch Repeat) inside after ≡ to_either (Branch Repeat) (first_node (at + 2) (at + 1) body) later =
      λ k. to_either (Branch Repeat) (i.first_is k) (after_is k) in
      let joined = stands_joined g (at + 2) (node_count body) xs zs (length_places (at + 2) (at + 1) later body) stands_x stands_z in
      let two : at + 2 ≡ at + 1 + 1 = omega arith in
      record {
        past_is = omega (arith, r.past_is, rest_is);
        first_is = f;
        stands = (count.0, count.1, (node.0, node.1 ∙ here, subst (λ m. Stands g m (xs ++ zs)) two joined));
      }

pub graph_drawn : (body : Statements) → IsDrawing (block_graph body) body
graph_drawn body =
    let last = 1 + node_count body in
    let places = places_of 1 last last body in
    let all : Stands (block_graph body) 0 (block_graph body) = stands_in [] (block_graph body) in
    let rest : Stands (block_graph body) last (exit ∷ []) =
    stands_rest (block_graph body) 1 (node_count body) places (exit ∷ []) (length_places 1 last last body) all.2 in
    record {
      first = first_node 1 last body;
      last = last;
      entry = refl;
      statements = drawn (block_graph body) body 1 last last last refl (stands_first (block_graph body) 1 places (exit ∷ []) all.2);
      exits = rest.1;
      count = omega (arith, length-append places (exit ∷ []), length_places 1 last last body);
    }

drawing_alone : (g : List GraphNode) (body : Statements) → IsDrawing g body → g ≡ block_graph body
drawing_alone g body is =
    let last = 1 + node_count body in
    let places = places_of 1 last last body in
    let p = placed g body 1 is.last is.first is.last is.last is.statements in
    let last_is : is.last ≡ last = p.past_is in
    let first_is : is.first ≡ first_node 1 last body = p.first_is ∙ ap (λ n. first_node 1 n body) last_is in
    let stands : Stands g 1 places = subst (λ n. Stands g 1 (places_of 1 n n body)) last_is p.stands in
    let exits : place_at g last ≡ exit = subst (λ n. place_at g n ≡ exit) last_is is.exits in
    let end : Stands g last (exit ∷ []) = (omega (arith, is.count, last_is), exits, tt) in
    let joined : Stands g 1 (places ++ exit ∷ []) = stands_joined g 1 (node_count body) places (exit ∷ []) (length_places 1 last last body) stands end in
    let whole : Stands g 0 (block_graph body) = (omega (arith, is.count), is.entry ∙ ap (λ n. to Entry n) first_is, joined) in
    stands_whole [] g (block_graph body) whole
    (omega (arith, is.count, last_is, length-append places (exit ∷ []), length_places 1 last last body))

pub graphs_are_drawings : GraphsAreDrawings
graphs_are_drawings = record { drawn = graph_drawn; alone = drawing_alone }
