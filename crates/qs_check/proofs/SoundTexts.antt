-- Why the program of a script with no fault is sound: names apart, variables of the client, leaves inside repeats, few
-- levels.
use Rattle.std.proofs.Common.{◌≡◌, ◌≤◌, Bool, true, false, ◌||◌, List, [], ◌∷◌, ◌++◌, length, map, Option, Some, None, append_assoc, refl, ap, sym, ◌∙◌, subst, arith, Ok, Err}
use Rattle.std.proofs.lemmas.List.{length-map}
use Rattle.std.specs.List.{AllByRecursion, IsDistinct}
use Rattle.std.proofs.lemmas.Bool.{or_right}
use Rattle.qs_objects.specs.declared.object.Kind.{Kind}
use Rattle.qs_script.specs.tree.Form.{HasForm}
use Rattle.qs_script.specs.declared.tree.tree.Atom as text
use Rattle.qs_script.specs.declared.tree.tree.Atom.TheVariants.{Variable, Number}
use Rattle.qs_script.specs.declared.tree.tree.Expr.TheVariants.{Plain, Binary}
use Rattle.qs_script.specs.declared.tree.tree.TemplateItem.{TemplateItem}
use Rattle.qs_script.specs.declared.tree.tree.StartedItem.{StartedItem}
use Rattle.qs_script.specs.declared.tree.tree.Item.{Item}
use Rattle.qs_script.specs.declared.tree.tree.Item.TheVariants.{Object, Client, Template, Started}
use Rattle.qs_script.specs.declared.tree.tree.Block as text_block
use Rattle.qs_script.specs.declared.tree.tree.Expr as text_expr
use Rattle.qs_script.specs.audit.tree.Tree as tree
use Rattle.qs_program.specs.declared.program.Declared.{Declared}
use Rattle.qs_check.specs.audit.Checked.{first_fault, fault_of, excess_of}
use Rattle.qs_check.specs.Checked.{text_fault}
use Rattle.qs_program.specs.audit.Numbering.{Name, same_name, is_among, found_at}
use Rattle.qs_check.specs.audit.fault_places.Places.{Scope, ScopeOrFault, scope_or_fault, start, script_places}
use Rattle.qs_program.specs.audit.Program.{ClientShape, ProgramShape, whole_load, whole_weight}
use Rattle.qs_check.specs.audit.fault_places.Variables.{variables_of}
use Rattle.qs_check.specs.audit.resolution.Resolve.{as_client, atom_of, binding_of, expr_of, body_of, block_shape, clients_of, declared_formals, names_of, kinds_of, objects_of, own_client, started_of, template_called, templates_in, program_of_items}
use Rattle.qs_program.specs.Sound.{IsAtomBelow, IsExprBelow, AreVariablesBelow, AreLeavesInside, IsFormedBlock, IsFormedClient, AreNamesApart, IsFormedProgram, IsSound}
use Rattle.qs_check.specs.WellFormed.{atom_names, atoms_names, expr_names, test_names, variables_in, variables_in_all, AreStatements, AreItems, IsWellFormedBlock, IsWellFormedTemplate, client_names, IsWellFormed}
use Rattle.qs_program.proofs.Found.{found_within, same_name-refl}
use Rattle.qs_program.specs.audit.Limits.{most_requests, most_steps}
use Rattle.qs_check.proofs.resolution.Resolving.{levels_same}
use Rattle.qs_check.proofs.binding.BoundTexts.{formed_bounds}
use Rattle.qs_check.proofs.Soundness.{sound}
use Rattle.qs_check.proofs.SoundStarts.{called_more, starts_sound}
use Rattle.qs_check.proofs.fault_places.Inner.{all_both}
use Rattle.qs_check.proofs.resolution.TemplateSearch.{called_with}
use Rattle.qs_check.proofs.TextNames.{distinct_variables, among_variables}
use Rattle.qs_check.proofs.TextRequests.{all_first, all_later}
use Rattle.qs_check.proofs.WellFormed.{ends_well, no_fault_left, well_formed_from, within_limits}

module _ (N : List Name) (K : List Kind) (V : List Name) where
  abbrev Among : List Name → Type 0
  Among xs = AllByRecursion (λ x. is_among V x ≡ true) xs

  first : (xs ys : List Name) → Among (xs ++ ys) → Among xs
  first xs ys h = all_first (λ x. is_among V x ≡ true) xs ys h

  later : (xs ys : List Name) → Among (xs ++ ys) → Among ys
  later xs ys h = all_later (λ x. is_among V x ≡ true) xs ys h

  atom_below : (a : text.Atom) → Among (atom_names a) → IsAtomBelow (length V) (atom_of V a)
  atom_below (Variable x) h = found_within V x h.0
  atom_below (Number n) h = tt

  atoms_below : (xs : List text.Atom) → Among (atoms_names xs) → AllByRecursion (IsAtomBelow (length V)) (map (atom_of V) xs)
  atoms_below [] h = tt
  atoms_below (a ∷ xs) h = (atom_below a (first (atom_names a) (atoms_names xs) h), atoms_below xs (later (atom_names a) (atoms_names xs) h))

  expr_below : (e : text_expr.Expr) → Among (expr_names e) → IsExprBelow (length V) (expr_of V e)
  expr_below (Plain a) h = atom_below a h
  expr_below (Binary a op b) h = (atom_below a (first (atom_names a) (atom_names b) h), atom_below b (later (atom_names a) (atom_names b) h))

  body_below : (body : tree.Stmts) → Among (variables_in body) → AreVariablesBelow (length V) (body_of N K V body)
  body_below tree.end h = tt
  body_below (tree.command c rest) h =
      (atoms_below c.args (first (atoms_names c.args) (variables_in rest) h), body_below rest (later (atoms_names c.args) (variables_in rest) h))
  body_below (tree.query x c rest) h =
      (found_within V x h.0, atoms_below c.args (first (atoms_names c.args) (variables_in rest) h.1), body_below rest (later (atoms_names c.args) (variables_in rest) h.1))
  body_below (tree.assign x e rest) h =
      (found_within V x h.0, expr_below e (first (expr_names e) (variables_in rest) h.1), body_below rest (later (expr_names e) (variables_in rest) h.1))
  body_below (tree.choose t one rest) h =
      let q = first (test_names t) (variables_in one ++ variables_in rest) h in
      let k = later (test_names t) (variables_in one ++ variables_in rest) h in (
        atom_below t.left (first (atom_names t.left) (atom_names t.right) q),
        atom_below t.right (later (atom_names t.left) (atom_names t.right) q),
        body_below one (first (variables_in one) (variables_in rest) k),
        tt,
        body_below rest (later (variables_in one) (variables_in rest) k),
      )
  body_below (tree.choose_else t one other rest) h =
      let q = first (test_names t) (variables_in one ++ (variables_in other ++ variables_in rest)) h in
      let k = later (test_names t) (variables_in one ++ (variables_in other ++ variables_in rest)) h in
      let m = later (variables_in one) (variables_in other ++ variables_in rest) k in (
        atom_below t.left (first (atom_names t.left) (atom_names t.right) q),
        atom_below t.right (later (atom_names t.left) (atom_names t.right) q),
        body_below one (first (variables_in one) (variables_in other ++ variables_in rest) k),
        body_below other (first (variables_in other) (variables_in rest) m),
        body_below rest (later (variables_in other) (variables_in rest) m),
      )
  body_below (tree.again n body rest) h =
      (body_below body (first (variables_in body) (variables_in rest) h), body_below rest (later (variables_in body) (variables_in rest) h))
  body_below (tree.leave rest) h = body_below rest h

  leaves_inside : (D : List Declared) (R : List Name) (inside : Bool) (body : tree.Stmts) → AreStatements D R inside body → AreLeavesInside inside (body_of N K V body)
  leaves_inside D R inside tree.end h = tt
  leaves_inside D R inside (tree.command c rest) (r, h) = leaves_inside D R inside rest h
  leaves_inside D R inside (tree.query x c rest) (r, h) = leaves_inside D R inside rest h
  leaves_inside D R inside (tree.assign x e rest) h = leaves_inside D R inside rest h
  leaves_inside D R inside (tree.choose t one rest) (k, h) = (leaves_inside D R inside one k, tt, leaves_inside D R inside rest h)
  leaves_inside D R inside (tree.choose_else t one other rest) (k, m, h) =
      (leaves_inside D R inside one k, leaves_inside D R inside other m, leaves_inside D R inside rest h)
  leaves_inside D R inside (tree.again n body rest) (r, k, h) = (leaves_inside D R true body k, leaves_inside D R inside rest h)
  leaves_inside D R inside (tree.leave rest) (i, h) = (i, leaves_inside D R inside rest h)

  blocks_formed : (D : List Declared) (bs : List text_block.Block) → AllByRecursion (IsWellFormedBlock D) bs → Among (variables_in_all bs) → AllByRecursion (IsFormedBlock (length V)) (map (block_shape N K V) bs)
  blocks_formed D [] h k = tt
  blocks_formed D (b ∷ bs) h k = (
    record {
      some = omega (arith, h.0.some, length-map b.reserved (found_at N));
      below = body_below b.body (first (variables_in b.body) (variables_in_all bs) k);
      leaves = leaves_inside D b.reserved false b.body h.0.statements;
      levels = omega (arith, h.0.levels, levels_same N K V b.body);
    },
    blocks_formed D bs h.1 (later (variables_in b.body) (variables_in_all bs) k),
  )

-- names are among themselves
among_more : (y : Name) (ys xs : List Name) → AllByRecursion (λ x. is_among ys x ≡ true) xs → AllByRecursion (λ x. is_among (y ∷ ys) x ≡ true) xs
among_more y ys [] h = tt
among_more y ys (x ∷ xs) h = (or_right (same_name x y) (is_among ys x) h.0, among_more y ys xs h.1)

among_themselves : (xs : List Name) → AllByRecursion (λ x. is_among xs x ≡ true) xs
among_themselves [] = tt
among_themselves (x ∷ xs) = (ap (λ b. b || is_among xs x) (same_name-refl x), among_more x xs xs (among_themselves xs))

among_same : (vs ys xs : List Name) → ((x : Name) → is_among vs x ≡ is_among ys x) → AllByRecursion (λ x. is_among ys x ≡ true) xs → AllByRecursion (λ x. is_among vs x ≡ true) xs
among_same vs ys [] e h = tt
among_same vs ys (x ∷ xs) e h = (e x ∙ h.0, among_same vs ys xs e h.1)

-- a client of a well-formed template
formed_start : (N : List Name) (t : TemplateItem) (c : StartedItem) → IsWellFormedTemplate t → IsFormedClient (started_of N (Some t) c)
formed_start N t c well =
    let F = declared_formals t.formals in
    let V = variables_of (as_client t) in
    let all = variables_in_all t.blocks in
    record {
      variables = distinct_variables (as_client t);
      each = formed_bounds (binding_of N c) (length V) (own_client t).blocks
          (blocks_formed (map (λ (d : Declared). d.name) F) (map (λ (d : Declared). d.kind) F) V F t.blocks well.client.each (among_same V all all (among_variables (as_client t)) (among_themselves all)));
    }

clients_formed : (items : List Item) (D : List Declared) (T S : List TemplateItem) (N : List Name) (K : List Kind) → T ≡ S ++ templates_in items → AllByRecursion IsWellFormedTemplate S → AreItems D S items → AllByRecursion IsFormedClient (clients_of T N K items)
clients_formed [] D T S N K f well h = tt
clients_formed (Object o ∷ rest) D T S N K f well (k, h) = clients_formed rest _ T S N K f well h
clients_formed (Client c ∷ rest) D T S N K f well (one, h) =
    let all = variables_in_all c.blocks in (
      record {
        variables = distinct_variables c;
        each = blocks_formed N K (variables_of c) D c.blocks one.each (among_same (variables_of c) all all (among_variables c) (among_themselves all));
      },
      clients_formed rest D T S N K f well h,
    )
clients_formed (Template c ∷ rest) D T S N K f well (one, h) =
    clients_formed rest D T (S ++ c ∷ []) N K (f ∙ sym (append_assoc S (c ∷ []) (templates_in rest))) (all_both IsWellFormedTemplate S (c ∷ []) well (one, tt)) h
clients_formed (Started c ∷ rest) D T S N K f well (one, h) =
    let called : template_called T c.template ≡ Some one.template =
    ap (λ ts. template_called ts c.template) f ∙ called_more S (templates_in rest) c.template one.template one.called in
    let Q : Option TemplateItem → Type 0 = λ r. IsFormedClient (started_of N r c) in (
      subst Q (sym called) (formed_start N one.template c (called_with IsWellFormedTemplate S c.template one.template well one.called)),
      clients_formed rest D T S N K f well h,
    )

started_name : (N : List Name) (r : Option TemplateItem) (c : StartedItem) → (started_of N r c).name ≡ c.name
started_name N None c = refl
started_name N (Some t) c = refl

names_same : (items : List Item) (T : List TemplateItem) (N : List Name) (K : List Kind) → map (λ (c : ClientShape). c.name) (clients_of T N K items) ≡ client_names items
names_same [] T N K = refl
names_same (Object o ∷ rest) T N K = names_same rest T N K
names_same (Client c ∷ rest) T N K = ap (λ ns. c.name ∷ ns) (names_same rest T N K)
names_same (Template c ∷ rest) T N K = names_same rest T N K
names_same (Started c ∷ rest) T N K =
    (λ i. started_name N (template_called T c.template) c i ∷ names_same rest T N K i)

-- no fault in the text, so the walk ends
walk_ends : (m : ScopeOrFault) → first_fault m None ≡ None → (t : Scope) × (m ≡ Ok t)
walk_ends (Ok t) h = (t, refl)
walk_ends (Err e) h = cc

resolved_form : (items : List Item) → IsWellFormed items → IsFormedProgram (program_of_items items)
unfolding IsFormedProgram
resolved_form items well =
    let P : List Name → Type 0 = λ ns. IsDistinct same_name ns in
    let apart : AreNamesApart (program_of_items items) =
    record { objects = well.objects_apart; clients = subst P (sym (names_same items (templates_in items) (names_of items) (kinds_of items))) well.clients_apart } in
    (apart, clients_formed items [] (templates_in items) [] (names_of items) (kinds_of items) refl tt well.each)

sound_resolved : (items : List Item) → HasForm items → text_fault items ≡ None → whole_load (program_of_items items) ≤ most_requests → whole_weight (program_of_items items) ≤ most_steps → IsSound (program_of_items items)
sound_resolved items form h load weight =
    let w = walk_ends (scope_or_fault start (script_places items)) h in
    let faultless : fault_of items ≡ None = ap (λ m. first_fault m (excess_of (program_of_items items))) w.1 ∙ no_fault_left (program_of_items items) load weight in
    let well = well_formed_from items form faultless in
    let starts = starts_sound (objects_of items) (templates_in items) well.objects_apart items [] [] refl refl tt well.each in
    sound items w.0 w.1 load weight starts (resolved_form items well)

pub sound_text : (items : List Item) (p : ProgramShape) → HasForm items → text_fault items ≡ None → p ≡ program_of_items items → whole_load p ≤ most_requests → whole_weight p ≤ most_steps → IsSound p
sound_text items p form h e load weight =
    let lighter : whole_load (program_of_items items) ≤ most_requests = omega (arith, load, ap whole_load e) in
    let shorter : whole_weight (program_of_items items) ≤ most_steps = omega (arith, weight, ap whole_weight e) in
    subst IsSound (sym e) (sound_resolved items form h lighter shorter)

-- so the program of every script that is accepted is sound
pub sound_accepted : (items : List Item) → HasForm items → fault_of items ≡ None → IsSound (program_of_items items)
sound_accepted items form h =
    let w = ends_well (scope_or_fault start (script_places items)) (excess_of (program_of_items items)) h in
    let limits = within_limits (program_of_items items) w.2 in
    sound_resolved items form (ap (λ m. first_fault m None) w.1) limits.0 limits.1
