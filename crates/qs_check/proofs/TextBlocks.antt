-- Blocks are walked without a fault exactly where they are right: their lists, their statements, their number and their
-- variables.
use Rattle.std.proofs.Common.{◌≡◌, ℕ, ◌+◌, ◌<◌, ◌≤◌, true, false, List, [], ◌∷◌, ◌++◌, length, refl, ap, sym, ◌∙◌, arith, append_assoc, append-nil, Ok}
use Rattle.std.specs.List.{AllByRecursion, IsDistinct}
use Rattle.qs_script.specs.declared.tree.tree.Block.{Block}
use Rattle.qs_script.specs.declared.tree.tree.TemplateItem.{TemplateItem}
use Rattle.qs_program.specs.declared.program.Declared.{Declared}
use Rattle.qs_program.specs.audit.Numbering.{Name, same_name, is_among, with_name}
use Rattle.qs_program.specs.audit.Limits.{most_blocks, most_variables}
use Rattle.qs_check.specs.audit.fault_places.Places.{Scope, listed, separate, scope_or_fault, places, listed_places, block_places, blocks_places, with_listed}
use Rattle.qs_check.specs.audit.fault_places.Variables.{variables_at}
use Rattle.qs_check.specs.WellFormed.{AreStatements, variables_in_all}
use Rattle.qs_check.proofs.fault_places.FinePlaces.{again, named_more, are_fine, fine_met}
use Rattle.qs_check.proofs.fault_places.Inner.{parted, inner_body, kept}
use Rattle.qs_check.proofs.resolution.Scopes.{names, scope}
use Rattle.qs_check.proofs.Soundness.{with_list, list_kept}
use Rattle.qs_check.proofs.fault_places.Steps.{with_names, onward, split, variables_met}
use Rattle.qs_check.proofs.TextNames.{all_named, variables_at-append, tell_list, tell_blocks}
use Rattle.qs_check.proofs.resolution.FreshNames.{Fresh, fresh_more, fresh_rest, no_fresh, unseen}
use Rattle.qs_check.proofs.TextRequests.{statements_from, statements_to}
use Rattle.qs_check.proofs.fault_places.Walks.{met-then}

-- a block's list
list_from : (ns : List Name) (s t : Scope) → scope_or_fault s (listed_places ns) ≡ Ok t → AllByRecursion (λ o. is_among s.objects o ≡ true) ns
list_from [] s t h = tt
list_from (n ∷ ns) s t h = let w = split s t (listed n) (listed_places ns) h in (w.0.0, list_from ns (with_listed s n) t w.1)

list_fresh : (ns : List Name) (s t : Scope) → scope_or_fault s (listed_places ns) ≡ Ok t → Fresh s.reserved ns
list_fresh [] s t h = no_fresh s.reserved
list_fresh (n ∷ ns) s t h = let w = split s t (listed n) (listed_places ns) h in fresh_more s.reserved n ns w.0.1 (list_fresh ns (with_listed s n) t w.1)

list_to : (ns : List Name) (s : Scope) → AllByRecursion (λ o. is_among s.objects o ≡ true) ns → Fresh s.reserved ns → scope_or_fault s (listed_places ns) ≡ Ok (with_list s (s.reserved ++ ns))
list_to [] s h k = ap (λ r. Ok (with_list s r)) (sym (append-nil s.reserved))
list_to (n ∷ ns) s h k =
    let w = fresh_rest s.reserved n ns k in
    onward s (listed n) (listed_places ns) _ (h.0, w.0)
    (list_to ns (with_listed s n) h.1 w.1 ∙ ap (λ r. Ok (with_list s r)) (append_assoc s.reserved (n ∷ []) ns))

-- a block that is right: its list has declared objects and none twice, and its statements are right
pub record IsRight (D : List Declared) (b : Block) : Type 0 where
  pub declares : AllByRecursion (λ o. is_among (names D) o ≡ true) b.reserved
  pub distinct : IsDistinct same_name b.reserved
  pub statements : AreStatements D b.reserved false b.body

-- the list of a block names no variables
block_variables : (V : List Name) (b : Block) → variables_at V (block_places b) ≡ variables_at V (places false b.body)
block_variables V b = variables_at-append V (listed_places b.reserved) (places false b.body) ∙ ap (λ ns. variables_at ns (places false b.body)) (tell_list b.reserved V)

module _ (D : List Declared) (T : List TemplateItem) (C : List Name) where
  module _ (n : ℕ) (V R : List Name) (b : Block) where
    -- after the beginning of the block, and after its list
    abbrev scope_in_block : Scope
    scope_in_block = scope D T C (n + 1) V []

    abbrev listing : Scope
    listing = scope D T C (n + 1) V b.reserved

    module _ (t : Scope) (h : scope_or_fault (scope D T C n V R) (block_places b) ≡ Ok t) where
      body_met : (scope_or_fault scope_in_block (listed_places b.reserved) ≡ Ok listing) × (scope_or_fault listing (places false b.body) ≡ Ok t)
      body_met =
          let w = split (scope D T C n V R) t separate (listed_places b.reserved ++ places false b.body) h in
          let v = parted scope_in_block t (listed_places b.reserved) (places false b.body) w.1 in
          let e : v.0 ≡ listing = list_kept b.reserved scope_in_block v.0 v.1 in
          (v.1 ∙ ap (λ u. Ok u) e, again listing t v.0 (places false b.body) e v.2)

      pub right_from : IsRight D b
      right_from =
          let w = body_met in record {
            declares = list_from b.reserved scope_in_block listing w.0;
            distinct = (list_fresh b.reserved scope_in_block listing w.0).1;
            statements = statements_from D b.reserved false b.body (are_fine listing t (places false b.body) (inner_body false b.body) w.1);
          }

      pub scope_after : t ≡ scope D T C (n + 1) (variables_at V (block_places b)) b.reserved
      scope_after =
          kept listing t (places false b.body) (inner_body false b.body) body_met.1
          ∙ ap (with_names listing) (variables_met (scope D T C n V R) t (block_places b) h)

    module _ (distinct : IsDistinct same_name (names D)) (right : IsRight D b) (room : n < most_blocks) (few : length (variables_at V (block_places b)) ≤ most_variables) where
      list_met : scope_or_fault scope_in_block (listed_places b.reserved) ≡ Ok listing
      list_met = list_to b.reserved scope_in_block right.declares (unseen b.reserved, right.distinct)

      pub right_to : scope_or_fault (scope D T C n V R) (block_places b) ≡ Ok (scope D T C (n + 1) (variables_at V (block_places b)) b.reserved)
      right_to =
          let names_are = block_variables V b in
          let small : length (variables_at V (places false b.body)) ≤ most_variables = omega (arith, few, ap length names_are) in
          let body = fine_met listing (places false b.body) (inner_body false b.body) (statements_to D b.reserved distinct false b.body right.statements) small in
          onward (scope D T C n V R) separate (listed_places b.reserved ++ places false b.body) _ room
          (met-then scope_in_block listing (listed_places b.reserved) (places false b.body) list_met ∙ body ∙ ap (λ v. Ok (with_names listing v)) (sym names_are))

  pub blocks_from : (bs : List Block) (n : ℕ) (V R : List Name) (t : Scope) → scope_or_fault (scope D T C n V R) (blocks_places bs) ≡ Ok t → AllByRecursion (IsRight D) bs
  blocks_from [] n V R t h = tt
  blocks_from (b ∷ bs) n V R t h =
      let w = parted (scope D T C n V R) t (block_places b) (blocks_places bs) h in
      let V1 = variables_at V (block_places b) in
      (right_from n V R b w.0 w.1, blocks_from bs (n + 1) V1 b.reserved t (again (scope D T C (n + 1) V1 b.reserved) t w.0 (blocks_places bs) (scope_after n V R b w.0 w.1) w.2))

  all_more : (old xs : List Name) → length old ≤ length (all_named old xs)
  all_more old [] = omega arith
  all_more old (x ∷ xs) = omega (arith, named_more old x, all_more (with_name old x) xs)

  pub blocks_to : IsDistinct same_name (names D) → (bs : List Block) (n : ℕ) (V R : List Name) → n + length bs ≤ most_blocks → length (variables_at V (blocks_places bs)) ≤ most_variables → AllByRecursion (IsRight D) bs → (t : Scope) × (scope_or_fault (scope D T C n V R) (blocks_places bs) ≡ Ok t) × (m : ℕ) × (Q : List Name) × (t ≡ scope D T C m (variables_at V (blocks_places bs)) Q)
  blocks_to distinct [] n V R room few right = (scope D T C n V R, refl, n, R, refl)
  blocks_to distinct (b ∷ bs) n V R room few right =
      let V1 = variables_at V (block_places b) in
      let parts : variables_at V (blocks_places (b ∷ bs)) ≡ variables_at V1 (blocks_places bs) = variables_at-append V (block_places b) (blocks_places bs) in
      let more = all_more V1 (variables_in_all bs) in
      let few_now : length V1 ≤ most_variables = omega (arith, few, ap length parts, ap length (tell_blocks bs V1), more) in
      let few_later : length (variables_at V1 (blocks_places bs)) ≤ most_variables = omega (arith, few, ap length parts) in
      let one = right_to n V R b distinct right.0 (omega arith) few_now in
      let w = blocks_to distinct bs (n + 1) V1 b.reserved (omega arith) few_later right.1 in
      (w.0, met-then (scope D T C n V R) (scope D T C (n + 1) V1 b.reserved) (block_places b) (blocks_places bs) one ∙ w.1, w.2, w.3, w.4 ∙ ap (λ vs. scope D T C w.2 vs w.3) (sym parts))
