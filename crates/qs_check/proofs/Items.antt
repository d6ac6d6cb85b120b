-- After each client the check forgets that client's variables, and this changes neither the faults that it meets later
-- nor what it knows of the rest. The loop of `check_items` over the items of a script stands on it. Its main lemma,
-- `forget`, goes by induction on the items: an object looks at no variables, and a client begins with none.
use Rattle.std.proofs.Common.{◌≡◌, ℕ, suc, ◌+◌, ◌<◌, Bool, true, false, ◌||◌, nat_lt, List, ◌∷◌, ◌++◌, length, get_or, drop, refl, ap, sym, ◌∙◌, add-one, append_assoc, Option, Some, None, Result, Ok, Err, if◌then◌else◌, drop-cons}
use Rattle.qs_script.specs.declared.tree.tree.KindText.{KindText}
use Rattle.qs_script.specs.declared.tree.tree.KindText.TheVariants.{Account, Buffer, Grid}
use Rattle.qs_script.specs.declared.tree.tree.Item.{Item}
use Rattle.qs_script.specs.declared.tree.tree.Item.TheVariants.{Object, Template}
use Rattle.qs_check.specs.declared.fault_places.fault.CheckFault.{CheckFault}
use Rattle.qs_check.specs.declared.fault_places.fault.CheckFault.TheVariants as f
use Rattle.qs_program.specs.audit.Numbering.{Name, is_among}
use Rattle.qs_program.specs.audit.Limits.{most_objects}
use Rattle.qs_check.specs.audit.fault_places.Places.{Scope, TextPlace, ScopeOrFault, number, text, fault_of_text, formal_kinds, most_templates, unless_fault, with_template, scope_or_fault, then_at, with_object, kind_of, kind_places, item_places, script_places}
use Rattle.qs_check.specs.fault_places.Places.{over, without_variables, Fails, Meets}
use Rattle.qs_check.specs.resolution.Resolve.{variable_lists}
use Rattle.qs_check.proofs.fault_places.Walks.{met-then, fails_first, meets_err, parts_at}

after_object : (b c : Bool) (s : Scope) (next : Scope → ScopeOrFault) → over (next s) ≡ over (next (without_variables s)) → over (then_at (if b then Err f.Twice else (if c then Ok s else Err f.Limit)) next) ≡ over (then_at (if b then Err f.Twice else (if c then Ok (without_variables s) else Err f.Limit)) next)
after_object false true s next h = h
after_object _ _ s next h = refl

after_number : (b : Bool) (s : Scope) (next : Scope → ScopeOrFault) → over (next s) ≡ over (next (without_variables s)) → over (then_at (if b then Err f.Range else Ok s) next) ≡ over (then_at (if b then Err f.Range else Ok (without_variables s)) next)
after_number true s next h = refl
after_number false s next h = h

after_kind : (k : KindText) (s : Scope) (ps : List TextPlace) → over (scope_or_fault s ps) ≡ over (scope_or_fault (without_variables s) ps) → over (scope_or_fault s (kind_places k ++ ps)) ≡ over (scope_or_fault (without_variables s) (kind_places k ++ ps))
after_kind (Account n) s ps h = after_number (nat_lt n 0 || nat_lt 1000000000000000 n) s (λ t. scope_or_fault t ps) h
after_kind (Buffer n) s ps h = after_number (nat_lt n 1 || nat_lt 1024 n) s (λ t. scope_or_fault t ps) h
after_kind (Grid r c) s ps h =
    after_number (nat_lt r 1 || nat_lt 16 r) s (λ t. scope_or_fault t (number 1 16 c ∷ ps)) (after_number (nat_lt c 1 || nat_lt 16 c) s (λ t. scope_or_fault t ps) h)

after_text : (fault : Option CheckFault) (s : Scope) (next : Scope → ScopeOrFault) → over (next s) ≡ over (next (without_variables s)) → over (then_at (unless_fault fault s) next) ≡ over (then_at (unless_fault fault (without_variables s)) next)
after_text None s next h = h
after_text (Some e) s next h = refl

-- no item asks for the variables of the client before it
pub forget : (items : List Item) (s : Scope) → over (scope_or_fault s (script_places items)) ≡ over (scope_or_fault (without_variables s) (script_places items))
forget (Template c ∷ rest) s =
    let u = with_template s c.name (formal_kinds c.formals) in
    after_object (is_among s.templates c.name) (nat_lt (length s.templates) most_templates) u (λ t. scope_or_fault t (text (fault_of_text c) ∷ script_places rest))
    (after_text (fault_of_text c) u (λ t. scope_or_fault t (script_places rest)) (forget rest u))
forget (Object o ∷ rest) s =
    let k = kind_of o.kind in
    after_object (is_among s.objects o.name) (nat_lt (length s.objects) most_objects) (with_object s o.name k) (λ t. scope_or_fault t (kind_places o.kind ++ script_places rest))
    (after_kind o.kind (with_object s o.name k) (script_places rest) (forget rest (with_object s o.name k)))
forget _ s = refl

-- what the item x, at i, adds to a walk that has come from s to t, but for the variables of the clients that are over
module _ (xs : List Item) (i : ℕ) (item x : Item) (within : i < length xs) (item_is : item ≡ get_or xs i item) (here : item ≡ x) where
  module _ (s t : Scope) (so_far : over (scope_or_fault s (script_places xs)) ≡ over (scope_or_fault t (script_places (drop i xs)))) where
    places_left : over (scope_or_fault s (script_places xs)) ≡ over (scope_or_fault t (item_places x ++ script_places (drop (i + 1) xs)))
    places_left =
        so_far ∙ ap (λ ps. over (scope_or_fault t ps)) (parts_at item_places xs i item within item_is ∙ ap (λ y. item_places y ++ script_places (drop (i + 1) xs)) here)

    pub item_fails : {X : Type 0} (r : Result X CheckFault) (e fault : CheckFault) (u : Scope) → r ≡ Err e → e ≡ fault → Fails fault (scope_or_fault t (item_places x)) → Meets r (over (scope_or_fault s (script_places xs))) u
    item_fails r e fault u is_err same h =
        meets_err r e fault _ u is_err same (λ n. places_left ∙ ap over (fails_first fault t (item_places x) (script_places (drop (i + 1) xs)) h n))

    pub item_walked : (u : Scope) → scope_or_fault t (item_places x) ≡ Ok u → over (scope_or_fault s (script_places xs)) ≡ over (scope_or_fault u (script_places (drop (i + 1) xs)))
    item_walked u h = places_left ∙ ap over (met-then t u (item_places x) (script_places (drop (i + 1) xs)) h)

  -- the lists of variables, of which the item adds some
  pub lists_walked : (first vs own now : List (List Name)) → first ++ variable_lists xs ≡ vs ++ variable_lists (drop i xs)
      → variable_lists (x ∷ drop (i + 1) xs) ≡ own ++ variable_lists (drop (i + 1) xs) → now ≡ vs ++ own → first ++ variable_lists xs ≡ now ++ variable_lists (drop (i + 1) xs)
  lists_walked first vs own now so_far its added =
      so_far ∙ ap (λ ls. vs ++ ls) (left ∙ its) ∙ sym (append_assoc vs own (variable_lists (drop (i + 1) xs))) ∙ ap (λ ls. ls ++ variable_lists (drop (i + 1) xs)) (sym added)
    where
      left : variable_lists (drop i xs) ≡ variable_lists (x ∷ drop (i + 1) xs)
      left = rw (drop-cons xs i item within, add-one) (ap (λ y. variable_lists (y ∷ drop (suc i) xs)) (sym item_is ∙ here))
