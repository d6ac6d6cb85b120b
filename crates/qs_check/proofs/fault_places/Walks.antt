-- A walk over two lists of places fails where the first list fails, and otherwise goes on from the scope that the first
-- list leaves. The loops of the check over statements, blocks and items stand on it; their invariant is that the walk
-- over the places that are left ends as the walk over all places does. The first lemma goes by induction on the places.
use Rattle.std.proofs.Common.{◌≡◌, ℕ, suc, ◌+◌, ◌<◌, Bool, List, [], ◌∷◌, ◌++◌, length, get_or, drop, refl, ap, sym, ◌∙◌, subst, append_assoc, append-nil, add-one, Result, Ok, Err, drop-cons}
use Rattle.qs_script.specs.declared.tree.tree.Stmt.{Stmt}
use Rattle.qs_script.specs.declared.tree.tree.Stmt.TheVariants.{Leave}
use Rattle.qs_script.specs.tree.Views.{stmts_of, single}
use Rattle.qs_check.specs.declared.fault_places.fault.CheckFault.{CheckFault}
use Rattle.qs_check.specs.audit.fault_places.Places.{Scope, TextPlace, ScopeOrFault, pass_place, scope_or_fault, then_at, places, at_each}
use Rattle.qs_check.specs.fault_places.Places.{Fails, Meets}

then_at-then : (r : ScopeOrFault) (f g h : Scope → ScopeOrFault) → ((t : Scope) → f t ≡ then_at (g t) h) → then_at r f ≡ then_at (then_at r g) h
then_at-then (Ok t) f g h e = e t
then_at-then (Err x) f g h e = refl

pub met-append : (s : Scope) (ps qs : List TextPlace) → scope_or_fault s (ps ++ qs) ≡ then_at (scope_or_fault s ps) (λ t. scope_or_fault t qs)
met-append s [] qs = refl
met-append s (p ∷ ps) qs = then_at-then (pass_place s p) (λ t. scope_or_fault t (ps ++ qs)) (λ t. scope_or_fault t ps) (λ t. scope_or_fault t qs) (λ t. met-append t ps qs)

-- after the first places
pub met-then : (s t : Scope) (ps qs : List TextPlace) → scope_or_fault s ps ≡ Ok t → scope_or_fault s (ps ++ qs) ≡ scope_or_fault t qs
met-then s t ps qs h = met-append s ps qs ∙ ap (λ r. then_at r (λ t. scope_or_fault t qs)) h

pub fails_first : (fault : CheckFault) (s : Scope) (ps qs : List TextPlace) → Fails fault (scope_or_fault s ps) → Fails fault (scope_or_fault s (ps ++ qs))
fails_first fault s ps qs h = λ n. met-append s ps qs ∙ ap (λ r. then_at r (λ t. scope_or_fault t qs)) (h n)

pub meets_then : {X : Type 0} (r : Result X CheckFault) (s t u : Scope) (ps qs : List TextPlace) → scope_or_fault s ps ≡ Ok t → Meets r (scope_or_fault t qs) u → Meets r (scope_or_fault s (ps ++ qs)) u
meets_then r s t u ps qs h m = let P : ScopeOrFault → Type 0 = λ x. Meets r x u in subst P (sym (met-then s t ps qs h)) m

pub at_each-drop : {A : Type 0} (f : A → List TextPlace) (xs : List A) (i : ℕ) (d : A) → i < length xs → at_each f (drop i xs) ≡ f (get_or xs i d) ++ at_each f (drop (i + 1) xs)
at_each-drop f xs i d within = rw (drop-cons xs i d within, add-one) refl

places-cons : (inside : Bool) (s : Stmt) (xs : List Stmt) → places inside (stmts_of (s ∷ xs)) ≡ places inside (single s) ++ places inside (stmts_of xs)
places-cons inside Leave xs = refl
places-cons inside _ xs = simp append_assoc

pub places-drop : (inside : Bool) (xs : List Stmt) (i : ℕ) (d : Stmt) → i < length xs → places inside (stmts_of (drop i xs)) ≡ places inside (single (get_or xs i d)) ++ places inside (stmts_of (drop (i + 1) xs))
places-drop inside xs i d within = rw (drop-cons xs i d within, add-one) (places-cons inside (get_or xs i d) (drop (suc i) xs))

-- a walk that has come from s to t: here and later are the places that are left
module _ (s t : Scope) (all left here later : List TextPlace) (so_far : scope_or_fault s all ≡ scope_or_fault t left) (parts : left ≡ here ++ later) where
  pub walk_fails : (fault : CheckFault) → Fails fault (scope_or_fault t here) → Fails fault (scope_or_fault s all)
  walk_fails fault h = λ n. so_far ∙ ap (scope_or_fault t) parts ∙ fails_first fault t here later h n

  pub walk_goes_on : (u : Scope) → scope_or_fault t here ≡ Ok u → scope_or_fault s all ≡ scope_or_fault u later
  walk_goes_on u h = so_far ∙ ap (scope_or_fault t) parts ∙ met-then t u here later h

-- the same, at the answer of a `?`
pub meets_err : {X : Type 0} (r : Result X CheckFault) (e fault : CheckFault) (m : ScopeOrFault) (u : Scope) → r ≡ Err e → e ≡ fault → Fails fault m → Meets r m u
meets_err r e fault m u is_err same h =
    let P : Result _ CheckFault → Type 0 = λ x. Meets x m u in
    subst P (sym (is_err ∙ ap Err same)) h

-- the places of the three parts of an `if` with `else`
module _ (s t u : Scope) (test first other : List TextPlace) (tested : scope_or_fault s test ≡ Ok t) where
  pub first_fails : (fault : CheckFault) → Fails fault (scope_or_fault t first) → Fails fault (scope_or_fault s (test ++ (first ++ (other ++ []))))
  first_fails fault h = λ n. met-then s t test (first ++ (other ++ [])) tested ∙ fails_first fault t first (other ++ []) h n

  pub other_meets : {X : Type 0} (r : Result X CheckFault) (v : Scope) → scope_or_fault t first ≡ Ok u → Meets r (scope_or_fault u other) v → Meets r (scope_or_fault s (test ++ (first ++ (other ++ [])))) v
  other_meets r v done h =
      let e : scope_or_fault s (test ++ (first ++ (other ++ []))) ≡ scope_or_fault u other =
      met-then s t test (first ++ (other ++ [])) tested ∙ met-then t u first (other ++ []) done ∙ ap (scope_or_fault u) (append-nil other) in
      let P : ScopeOrFault → Type 0 = λ x. Meets r x v in
      subst P (sym e) h

-- a place before others
pub one_then : {X : Type 0} (r : Result X CheckFault) (s t u : Scope) (p : TextPlace) (qs : List TextPlace) → pass_place s p ≡ Ok t → Meets r (scope_or_fault t qs) u → Meets r (scope_or_fault s (p ∷ (qs ++ []))) u
one_then r s t u p qs h m =
    let e : scope_or_fault s (p ∷ (qs ++ [])) ≡ scope_or_fault t qs = ap (λ x. then_at x (λ v. scope_or_fault v (qs ++ []))) h ∙ ap (scope_or_fault t) (append-nil qs) in
    let P : ScopeOrFault → Type 0 = λ x. Meets r x u in
    subst P (sym e) m

-- a place, and others of which the first end well
module _ (s t : Scope) (p : TextPlace) (qs rs : List TextPlace) (first : pass_place s p ≡ Ok t) where
  pub fails_after : (fault : CheckFault) → Fails fault (scope_or_fault t qs) → Fails fault (scope_or_fault s (p ∷ (qs ++ rs)))
  fails_after fault h = λ n. ap (λ x. then_at x (λ v. scope_or_fault v (qs ++ rs))) first ∙ fails_first fault t qs rs h n

  pub meets_after : {X : Type 0} (r : Result X CheckFault) (u v : Scope) → scope_or_fault t qs ≡ Ok u → Meets r (scope_or_fault u rs) v → Meets r (scope_or_fault s (p ∷ (qs ++ rs))) v
  meets_after r u v h m =
      let e : scope_or_fault s (p ∷ (qs ++ rs)) ≡ scope_or_fault u rs = ap (λ x. then_at x (λ w. scope_or_fault w (qs ++ rs))) first ∙ met-then t u qs rs h in
      let P : ScopeOrFault → Type 0 = λ x. Meets r x v in
      subst P (sym e) m

-- the elements of a list from i on, of which the one at i is known
pub parts_at : {A : Type 0} (f : A → List TextPlace) (xs : List A) (i : ℕ) (item : A) → i < length xs → item ≡ get_or xs i item → at_each f (drop i xs) ≡ f item ++ at_each f (drop (i + 1) xs)
parts_at f xs i item within item_is = at_each-drop f xs i item within ∙ ap (λ x. f x ++ at_each f (drop (i + 1) xs)) (sym item_is)
