-- The places of a block, and what each asks of the objects, their kinds and the block's list: where all of them are
-- fine and the variables stay few, no fault is met, and the other way round.
use Rattle.std.proofs.Common.{◌≡◌, ℕ, ◌+◌, ◌<◌, ◌≤◌, Bool, true, false, List, [], ◌∷◌, ◌++◌, length, refl, ap, sym, ◌∙◌, subst, arith, length-append, Ok, if◌then◌else◌}
use Rattle.std.specs.List.{AllByRecursion}
use Rattle.qs_objects.specs.declared.object.Kind.{Kind}
use Rattle.qs_program.specs.audit.Numbering.{Name, is_among, with_name}
use Rattle.qs_program.specs.audit.Limits.{most_variables}
use Rattle.qs_check.specs.audit.fault_places.Places.{Scope, TextPlace, number, client, target, operation, arguments, variable, leaves, scope_or_fault, op_at, is_known, takes}
use Rattle.qs_check.specs.audit.fault_places.Variables.{variables_at}
use Rattle.qs_check.proofs.fault_places.Inner.{IsInner, Inner, kept_by_one}
use Rattle.qs_check.proofs.fault_places.Steps.{with_names, next_scope, next_variables, Tells, onward, split}

module _ (os : List Name) (ks : List Kind) (R : List Name) where
  abbrev pub IsFine : TextPlace → Type 0
  IsFine (number low high n) = (low ≤ n) × (n ≤ high)
  IsFine (target o) = (is_among os o ≡ true) × (is_among R o ≡ true)
  IsFine (operation asks o op) = is_known (op_at os ks asks o op) ≡ true
  IsFine (arguments asks o op n) = takes (op_at os ks asks o op) n ≡ true
  IsFine (leaves inside) = inside ≡ true
  IsFine _ = Unit {0}

abbrev pub AreFine : Scope → List TextPlace → Type 0
AreFine s ps = AllByRecursion (IsFine s.objects s.kinds s.reserved) ps

-- what is met from an equal scope
pub again : (s t u : Scope) (ps : List TextPlace) → u ≡ s → scope_or_fault u ps ≡ Ok t → scope_or_fault s ps ≡ Ok t
again s t u ps e h = ap (λ v. scope_or_fault v ps) (sym e) ∙ h

told_fine : (s : Scope) (p : TextPlace) → Tells s p → IsFine s.objects s.kinds s.reserved p
told_fine s (number low high n) h = h
told_fine s (target o) h = h
told_fine s (operation asks o op) h = h
told_fine s (arguments asks o op n) h = h
told_fine s (leaves inside) h = h
told_fine s _ h = tt

pub are_fine : (s t : Scope) (ps : List TextPlace) → Inner ps → scope_or_fault s ps ≡ Ok t → AreFine s ps
are_fine s t [] i h = tt
are_fine s t (p ∷ ps) i h =
    let w = split s t p ps h in
    (told_fine s p w.0, subst (λ (u : Scope). AreFine u ps) (kept_by_one s p i.0) (are_fine (next_scope s p) t ps i.1 w.1))

-- a list of names grows by what it lacks
more_named : (names : List Name) (x : Name) (b : Bool) → length names ≤ length (if b then names else names ++ x ∷ [])
more_named names x true = omega arith
more_named names x false = rw length-append (omega arith)

pub named_more : (names : List Name) (x : Name) → length names ≤ length (with_name names x)
named_more names x = more_named names x (is_among names x)

variables_more : (names : List Name) (ps : List TextPlace) → Inner ps → length names ≤ length (variables_at names ps)
variables_more names [] i = omega arith
variables_more names (client n ∷ ps) i = absurd i.0
variables_more names (variable x ∷ ps) i = omega (arith, named_more names x, variables_more (with_name names x) ps i.1)
variables_more names (_ ∷ ps) i = variables_more names ps i.1

room : (n : ℕ) (names : List Name) (x : Name) (b : Bool) → length (if b then names else names ++ x ∷ []) ≤ n → b ≡ false → length names < n
room n names x true h e = cc
room n names x false h e = let k : length names + 1 ≤ n = rw length-append at h in omega (arith, k)

fine_told : (s : Scope) (p : TextPlace) → IsInner p → IsFine s.objects s.kinds s.reserved p → length (next_scope s p).variables ≤ most_variables → Tells s p
fine_told s (number low high n) i h few = h
fine_told s (target o) i h few = h
fine_told s (operation asks o op) i h few = h
fine_told s (arguments asks o op n) i h few = h
fine_told s (variable x) i h few = room most_variables s.variables x (is_among s.variables x) few
fine_told s (leaves inside) i h few = h
fine_told s _ i h few = absurd i

-- fine places are met without a fault
pub fine_met : (s : Scope) (ps : List TextPlace) → Inner ps → AreFine s ps → length (variables_at s.variables ps) ≤ most_variables → scope_or_fault s ps ≡ Ok (with_names s (variables_at s.variables ps))
fine_met s [] i h few = refl
fine_met s (p ∷ ps) i h few =
    let u = next_scope s p in
    let names = next_variables s p ps in
    let small : length (variables_at u.variables ps) ≤ most_variables = omega (arith, few, ap length names) in
    let now : length u.variables ≤ most_variables = omega (arith, small, variables_more u.variables ps i.1) in
    onward s p ps _ (fine_told s p i.0 h.0 now)
    (fine_met u ps i.1 (subst (λ (v : Scope). AreFine v ps) (sym (kept_by_one s p i.0)) h.1) small
    ∙ (λ j. Ok (with_names (kept_by_one s p i.0 j) (names j))))
