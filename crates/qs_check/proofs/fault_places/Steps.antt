-- A place that is passed without a fault tells something: a name is new, a number is in its range, or an operation is
-- known. Almost every proof about a check without a fault reads its facts with `stepped`, which says what each place
-- tells, and with `split`, which cuts off the first place. `passes` and `onward` say the same the other way round. All
-- go by cases on the place.
use Rattle.std.proofs.Common.{◌≡◌, ℕ, ◌<◌, ◌≤◌, Bool, true, false, ◌||◌, nat_lt, List, [], ◌∷◌, ◌++◌, length, refl, ap, sym, ◌∙◌, arith, Option, Some, None, nat_eq, Result, Ok, Err, OnOk, if◌then◌else◌, ltb-true, eqb-true, lt-ltb, eq-eqb}
use Rattle.std.proofs.lemmas.Bool.Decides.{nat_tests}
use Rattle.qs_check.specs.declared.fault_places.fault.CheckFault.{CheckFault}
use Rattle.qs_check.specs.declared.fault_places.fault.CheckFault.TheVariants as f
use Rattle.qs_program.specs.audit.Numbering.{Name, is_among, with_name}
use Rattle.qs_program.specs.audit.Limits.{most_blocks, most_clients, most_objects, most_variables}
use Rattle.qs_check.specs.audit.fault_places.Places.{Scope, TextPlace, ScopeOrFault, object, number, client, separate, listed, target, operation, arguments, variable, leaves, template, text, starts, given, pass_place, scope_or_fault, then_at, with_object, with_client, scope_of_block, with_listed, with_variable, op_at, is_known, takes, most_templates, with_template, formals_at, is_given, unless_fault}
use Rattle.qs_check.specs.fault_places.Places.{Meets}
use Rattle.qs_check.specs.audit.fault_places.Variables.{variables_at}

-- the scope with other variables
abbrev pub with_names : Scope → List Name → Scope
with_names s names = record s { variables = names }

abbrev pub fine : Scope → ScopeOrFault
fine s = Ok s

-- what is known after a place that is no fault
abbrev pub next_scope : Scope → TextPlace → Scope
next_scope s (object n k) = with_object s n k
next_scope s (client n) = with_client s n
next_scope s separate = scope_of_block s
next_scope s (listed o) = with_listed s o
next_scope s (variable x) = with_names s (with_name s.variables x)
next_scope s (template n ks) = with_template s n ks
next_scope s _ = s

-- what a place that is no fault tells of the scope before it
abbrev pub Tells : Scope → TextPlace → Type 0
Tells s (object n k) = (is_among s.objects n ≡ false) × (length s.objects < most_objects)
Tells s (number low high n) = (low ≤ n) × (n ≤ high)
Tells s (client n) = (is_among s.clients n ≡ false) × (length s.clients < most_clients)
Tells s separate = s.blocks < most_blocks
Tells s (listed o) = (is_among s.objects o ≡ true) × (is_among s.reserved o ≡ false)
Tells s (target o) = (is_among s.objects o ≡ true) × (is_among s.reserved o ≡ true)
Tells s (operation asks o op) = is_known (op_at s.objects s.kinds asks o op) ≡ true
Tells s (arguments asks o op n) = takes (op_at s.objects s.kinds asks o op) n ≡ true
Tells s (variable x) = is_among s.variables x ≡ false → length s.variables < most_variables
Tells s (leaves inside) = inside ≡ true
Tells s (template n ks) = (is_among s.templates n ≡ false) × (length s.templates < most_templates)
Tells s (text fault) = fault ≡ None
Tells s (starts n count) = (is_among s.templates n ≡ true) × (length (formals_at s.templates s.formals n) ≡ count)
Tells s (given n i o) = (is_among s.objects o ≡ true) × (is_given s n i o ≡ true)

pub ok_same : (s t : Scope) → fine s ≡ Ok t → t ≡ s
ok_same s t h = cc

one_test : (b : Bool) (s t : Scope) (e : CheckFault) → (if b then Ok s else Err e) ≡ Ok t → (b ≡ true) × (t ≡ s)
one_test true s t e h = (refl, ok_same s t h)
one_test false s t e h = cc

two_tests : (b c : Bool) (s t : Scope) (d e : CheckFault) → (if b then (if c then Ok s else Err d) else Err e) ≡ Ok t → ((b ≡ true) × (c ≡ true)) × (t ≡ s)
two_tests true c s t d e h = let p = one_test c s t d h in ((refl, p.0), p.1)
two_tests false c s t d e h = cc

else_ok : (b : Bool) (s t : Scope) (e : CheckFault) → (if b then Err e else Ok s) ≡ Ok t → (b ≡ false) × (t ≡ s)
else_ok true s t e h = cc
else_ok false s t e h = (refl, ok_same s t h)

listed_ok : (b c : Bool) (s t : Scope) (d e : CheckFault) → (if b then (if c then Err d else Ok s) else Err e) ≡ Ok t → ((b ≡ true) × (c ≡ false)) × (t ≡ s)
listed_ok true c s t d e h = let p = else_ok c s t d h in ((refl, p.0), p.1)
listed_ok false c s t d e h = cc

room_left : (n m : ℕ) (s t : Scope) (e : CheckFault) → (if nat_lt n m then Ok s else Err e) ≡ Ok t → (n < m) × (t ≡ s)
room_left n m s t e h = let p = one_test (nat_lt n m) s t e h in (ltb-true n m p.0, p.1)

new_name : (b : Bool) (n m : ℕ) (s t : Scope) → (if b then Err f.Twice else (if nat_lt n m then Ok s else Err f.Limit)) ≡ Ok t → ((b ≡ false) × (n < m)) × (t ≡ s)
new_name true n m s t h = cc
new_name false n m s t h = let p = room_left n m s t f.Limit h in ((refl, p.0), p.1)

no_fault : (fault : Option CheckFault) (s t : Scope) → unless_fault fault s ≡ Ok t → (fault ≡ None) × (t ≡ s)
no_fault None s t h = (refl, ok_same s t h)
no_fault (Some e) s t h = cc

in_range : (low high n : ℕ) → (nat_lt n low || nat_lt high n) ≡ false → (low ≤ n) × (n ≤ high)
in_range low high n h = (grind (arith, nat_tests), grind (arith, nat_tests))

variable_stepped : (s t : Scope) (x : Name) (b : Bool) → (if b then Ok s else (if nat_lt (length s.variables) most_variables then Ok (with_variable s x) else Err f.Limit)) ≡ Ok t
    → (b ≡ false → length s.variables < most_variables) × (t ≡ with_names s (if b then s.variables else s.variables ++ x ∷ []))
variable_stepped s t x true h = (λ e. absurd (cc), ok_same s t h)
variable_stepped s t x false h = let p = room_left (length s.variables) most_variables (with_variable s x) t f.Limit h in (λ e. p.0, p.1)

pub stepped : (s t : Scope) (p : TextPlace) → pass_place s p ≡ Ok t → Tells s p × (t ≡ next_scope s p)
stepped s t (object n k) h = new_name (is_among s.objects n) (length s.objects) most_objects (with_object s n k) t h
stepped s t (number low high n) h =
    let p = else_ok (nat_lt n low || nat_lt high n) s t f.Range h in (in_range low high n p.0, p.1)
stepped s t (client n) h = new_name (is_among s.clients n) (length s.clients) most_clients (with_client s n) t h
stepped s t separate h = room_left s.blocks most_blocks (scope_of_block s) t f.Limit h
stepped s t (listed o) h = listed_ok (is_among s.objects o) (is_among s.reserved o) (with_listed s o) t f.ReservedTwice f.UnknownObject h
stepped s t (target o) h = two_tests (is_among s.objects o) (is_among s.reserved o) s t f.NotReserved f.UnknownObject h
stepped s t (operation asks o op) h = one_test (is_known (op_at s.objects s.kinds asks o op)) s t f.UnknownOp h
stepped s t (arguments asks o op n) h = one_test (takes (op_at s.objects s.kinds asks o op) n) s t f.Arity h
stepped s t (variable x) h = variable_stepped s t x (is_among s.variables x) h
stepped s t (leaves inside) h = one_test inside s t f.LeaveOutside h
stepped s t (template n ks) h = new_name (is_among s.templates n) (length s.templates) most_templates (with_template s n ks) t h
stepped s t (text fault) h = no_fault fault s t h
stepped s t (starts n count) h =
    let ks = formals_at s.templates s.formals n in
    let p = two_tests (is_among s.templates n) (nat_eq (length ks) count) s t f.Count f.UnknownTemplate h in
    ((p.0.0, eqb-true (length ks) count p.0.1), p.1)
stepped s t (given n i o) h = two_tests (is_among s.objects o) (is_given s n i o) s t f.OtherKind f.UnknownObject h

-- a place that tells so much is no fault
between : (low high n : ℕ) → low ≤ n → n ≤ high → (nat_lt n low || nat_lt high n) ≡ false
between low high n h k = grind (arith, nat_tests)

variable_passes : (s : Scope) (x : Name) (b : Bool) → (b ≡ false → length s.variables < most_variables)
    → (if b then Ok s else (if nat_lt (length s.variables) most_variables then Ok (with_variable s x) else Err f.Limit)) ≡ fine (with_names s (if b then s.variables else s.variables ++ x ∷ []))
variable_passes s x true h = refl
variable_passes s x false h = rw (lt-ltb (length s.variables) 16 (h refl)) refl

pub passes : (s : Scope) (p : TextPlace) → Tells s p → pass_place s p ≡ Ok (next_scope s p)
passes s (object n k) h = rw (h.0, lt-ltb (length s.objects) 8 h.1) refl
passes s (number low high n) h = rw (between low high n h.0 h.1) refl
passes s (client n) h = rw (h.0, lt-ltb (length s.clients) 8 h.1) refl
passes s separate h = rw (lt-ltb s.blocks 64 h) refl
passes s (variable x) h = variable_passes s x (is_among s.variables x) h
passes s (template n ks) h = rw (h.0, lt-ltb (length s.templates) 8 h.1) refl
passes s (starts n count) h = rw (h.0, eq-eqb (length (formals_at s.templates s.formals n)) count h.1) refl
passes s (listed o) h = rw (h.0, h.1) refl
passes s (target o) h = rw (h.0, h.1) refl
passes s (given n i o) h = rw (h.0, h.1) refl
passes s _ h = rw h refl

pub onward : (s : Scope) (p : TextPlace) (ps : List TextPlace) (m : ScopeOrFault) → Tells s p → scope_or_fault (next_scope s p) ps ≡ m → scope_or_fault s (p ∷ ps) ≡ m
onward s p ps m h k = ap (λ r. then_at r (λ t. scope_or_fault t ps)) (passes s p h) ∙ k

-- the scope between a place and the others
pub then_at_ok : (m : ScopeOrFault) (next : Scope → ScopeOrFault) (t : Scope) → then_at m next ≡ Ok t → (u : Scope) × (m ≡ Ok u) × (next u ≡ Ok t)
then_at_ok (Ok u) next t h = (u, refl, h)
then_at_ok (Err e) next t h = cc

pub split : (s t : Scope) (p : TextPlace) (ps : List TextPlace) → scope_or_fault s (p ∷ ps) ≡ Ok t → Tells s p × (scope_or_fault (next_scope s p) ps ≡ Ok t)
split s t p ps h =
    let w = then_at_ok (pass_place s p) (λ v. scope_or_fault v ps) t h in
    let one = stepped s w.0 p w.1 in
    (one.0, ap (λ v. scope_or_fault v ps) (sym one.1) ∙ w.2)

-- the variables that are met are those of the places
pub next_variables : (s : Scope) (p : TextPlace) (ps : List TextPlace) → variables_at (next_scope s p).variables ps ≡ variables_at s.variables (p ∷ ps)
next_variables s (variable x) ps = refl
next_variables s _ ps = refl

pub variables_met : (s t : Scope) (ps : List TextPlace) → scope_or_fault s ps ≡ Ok t → t.variables ≡ variables_at s.variables ps
variables_met s t [] h = ap (λ u. u.variables) (ok_same s t h)
variables_met s t (p ∷ ps) h = variables_met (next_scope s p) t ps (split s t p ps h).1 ∙ next_variables s p ps

-- the same, of a call of the code
pub variables_meet : {X : Type 0} (r : Result X CheckFault) (s t : Scope) (ps : List TextPlace) → Meets r (scope_or_fault s ps) t → OnOk r (t.variables ≡ variables_at s.variables ps)
variables_meet (Ok x) s t ps h = variables_met s t ps h
variables_meet (Err e) s t ps h = tt
