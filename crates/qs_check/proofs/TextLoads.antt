-- A script's loads and weights by name are those of its program, where the objects of all requests are declared.
use Rattle.std.proofs.Common.{◌≡◌, ℕ, ◌*◌, ◌<◌, max, Bool, true, false, ◌==◌, List, [], ◌∷◌, ◌++◌, length, map, get_or, refl, ap, sym, ◌∙◌, arith, if◌then◌else◌, sum_by}
use Rattle.std.proofs.lemmas.List.{length-map}
use Rattle.std.proofs.lemmas.List.Sums.{sum_by-cons}
use Rattle.std.specs.Cmp.Lexicographic.{same_text}
use Rattle.std.specs.List.{AllByRecursion, Contains}
use Rattle.qs_objects.specs.declared.object.Kind.{Kind}
use Rattle.qs_script.specs.declared.tree.tree.Block.{Block}
use Rattle.qs_script.specs.audit.tree.Tree as tree
use Rattle.qs_program.specs.declared.program.Declared.{Declared}
use Rattle.qs_program.specs.audit.Loads.{load_of, weight_of}
use Rattle.qs_program.specs.audit.Numbering.{Name, same_name, is_among, found_at}
use Rattle.qs_program.specs.audit.Program.{BlockShape, block_load}
use Rattle.qs_check.specs.audit.resolution.Resolve.{body_of, block_shape}
use Rattle.qs_check.specs.TextLoads.{requests_on, steps_in, text_block_load}
use Rattle.qs_check.specs.WellFormed.{AreStatements}
use Rattle.qs_program.proofs.Found.{apart, same, found_apart, is_among-append, false_not_true, same_name-refl}
use Rattle.qs_check.proofs.resolution.Scopes.{names}
use Rattle.qs_check.proofs.TextBlocks.{IsRight}
use Rattle.qs_check.proofs.TextRequests.{among_at, at_number}

-- names that are among the objects are the same exactly where their numbers are
same_number : (N : List Name) (a b : Name) → is_among N a ≡ true → is_among N b ≡ true → (found_at N a == found_at N b) ≡ same_name a b
same_number N a b h k = by_case (same_name a b) refl
  where
    by_case : (s : Bool) → same_name a b ≡ s → (found_at N a == found_at N b) ≡ s
    by_case true e = ap (λ y. found_at N a == found_at N y) (sym (same_text a b (sym e))) ∙ same (found_at N a)
    by_case false e =
        apart (found_at N a) (found_at N b)
        (λ i. false_not_true (same_name a b) (ap (same_name a) (sym (found_apart N a b h k i)) ∙ same_name-refl a) e)

abbrev one_if : Bool → ℕ
one_if b = if b then 1 else 0

module _ (N : List Name) (K : List Kind) (V : List Name) where
  module _ (D : List Declared) (R : List Name) (declared : (d : Declared) → Contains D d → is_among N d.name ≡ true) (o : Name) (here : is_among N o ≡ true) where
    pub load_same : (inside : Bool) (body : tree.Stmts) → AreStatements D R inside body → load_of (body_of N K V body) (found_at N o) ≡ requests_on o body
    load_same inside tree.end h = refl
    load_same inside (tree.command c rest) (r, h) =
        omega (arith, ap one_if (same_number N c.object o (declared (record { name = c.object; kind = r.kind }) r.declares) here), load_same inside rest h)
    load_same inside (tree.query x c rest) (r, h) =
        omega (arith, ap one_if (same_number N c.object o (declared (record { name = c.object; kind = r.kind }) r.declares) here), load_same inside rest h)
    load_same inside (tree.assign x e rest) h = load_same inside rest h
    load_same inside (tree.choose t first rest) (k, h) = omega (arith, load_same inside first k, load_same inside rest h)
    load_same inside (tree.choose_else t first other rest) (k, m, h) = omega (arith, load_same inside first k, load_same inside other m, load_same inside rest h)
    load_same inside (tree.again n body rest) (r, k, h) = omega (arith, ap (λ l. n * l) (load_same true body k), load_same inside rest h)
    load_same inside (tree.leave rest) (i, h) = load_same inside rest h

  pub weight_same : (body : tree.Stmts) → weight_of (body_of N K V body) ≡ steps_in body
  weight_same tree.end = refl
  weight_same (tree.command c rest) = omega (arith, weight_same rest)
  weight_same (tree.query x c rest) = omega (arith, weight_same rest)
  weight_same (tree.assign x e rest) = omega (arith, weight_same rest)
  weight_same (tree.choose t first rest) = omega (arith, weight_same first, weight_same rest)
  weight_same (tree.choose_else t first other rest) = omega (arith, weight_same first, weight_same other, weight_same rest)
  weight_same (tree.again n body rest) = omega (arith, ap (λ w. n * max 1 w) (weight_same body), weight_same rest)
  weight_same (tree.leave rest) = omega (arith, weight_same rest)

  module _ (D : List Declared) (more : List Name) (front : N ≡ names D ++ more) where
    lifted : (o : Name) → is_among (names D) o ≡ true → is_among N o ≡ true
    lifted o h = ap (λ ns. is_among ns o) front ∙ is_among-append (names D) more o h

    declared_among : (d : Declared) → Contains D d → is_among N d.name ≡ true
    declared_among d h =
        let within : h.0 < length (names D) = omega (arith, h.1, length-map D (λ (o : Declared). o.name)) in
        let name_is : get_or (names D) h.0 [] ≡ d.name = ap (λ (o : Declared). o.name) (sym (at_number D h.0 d h.1) ∙ h.2) in
        lifted d.name (ap (is_among (names D)) (sym name_is) ∙ among_at (names D) h.0 within)

    list_loads : (b : Block) (ns : List Name) → IsRight D b → AllByRecursion (λ o. is_among (names D) o ≡ true) ns → sum_by (load_of (body_of N K V b.body)) (map (found_at N) ns) ≡ sum_by (λ o. requests_on o b.body) ns
    list_loads b [] right h = refl
    list_loads b (n ∷ ns) right h =
        rw (sum_by-cons (load_of (body_of N K V b.body)) (found_at N n) (map (found_at N) ns), sum_by-cons (λ o. requests_on o b.body) n ns)
        (omega (arith, load_same D b.reserved declared_among n (lifted n h.0) false b.body right.statements, list_loads b ns right h.1))

    pub blocks_loads : (bs : List Block) → AllByRecursion (IsRight D) bs → sum_by block_load (map (block_shape N K V) bs) ≡ sum_by text_block_load bs
    blocks_loads [] h = refl
    blocks_loads (b ∷ bs) h =
        rw (sum_by-cons block_load (block_shape N K V b) (map (block_shape N K V) bs), sum_by-cons text_block_load b bs)
        (omega (arith, list_loads b b.reserved h.0 h.0.declares, blocks_loads bs h.1))

  pub blocks_weights : (bs : List Block) → sum_by (λ (b : BlockShape). weight_of b.body) (map (block_shape N K V) bs) ≡ sum_by (λ (b : Block). steps_in b.body) bs
  blocks_weights [] = refl
  blocks_weights (b ∷ bs) =
      rw (sum_by-cons (λ (b : BlockShape). weight_of b.body) (block_shape N K V b) (map (block_shape N K V) bs), sum_by-cons (λ (b : Block). steps_in b.body) b bs)
      (omega (arith, weight_same b.body, blocks_weights bs))
