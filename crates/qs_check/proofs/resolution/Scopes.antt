-- What is known in a walk with objects and templates declared: their names, their kinds, and those of the templates'
-- formals.
use Rattle.std.proofs.Common.{◌≡◌, ℕ, List, [], ◌∷◌, ◌++◌, map, sym}
use Rattle.std.proofs.lemmas.List.{map-append}
use Rattle.qs_objects.specs.declared.object.Kind.{Kind}
use Rattle.qs_script.specs.declared.tree.tree.TemplateItem.{TemplateItem}
use Rattle.qs_program.specs.declared.program.Declared.{Declared}
use Rattle.qs_program.specs.audit.Numbering.{Name}
use Rattle.qs_check.specs.audit.fault_places.Places.{Scope, formal_kinds, with_object}

abbrev pub names : List Declared → List Name
names D = map (λ (o : Declared). o.name) D

abbrev pub kinds : List Declared → List Kind
kinds D = map (λ (o : Declared). o.kind) D

-- what is known with these objects and templates declared
abbrev pub template_names : List TemplateItem → List Name
template_names T = map (λ (t : TemplateItem). t.name) T

abbrev pub template_formals : List TemplateItem → List (List Kind)
template_formals T = map (λ (t : TemplateItem). formal_kinds t.formals) T

abbrev pub scope : List Declared → List TemplateItem → List Name → ℕ → List Name → List Name → Scope
scope D T clients blocks variables reserved = record { objects = names D; kinds = kinds D; clients = clients; templates = template_names T; formals = template_formals T; blocks = blocks; variables = variables; reserved = reserved }

pub names_with : (D : List Declared) (d : Declared) → names D ++ d.name ∷ [] ≡ names (D ++ d ∷ [])
names_with D d = sym (map-append (λ (o : Declared). o.name) D (d ∷ []))

kinds_with : (D : List Declared) (d : Declared) → kinds D ++ d.kind ∷ [] ≡ kinds (D ++ d ∷ [])
kinds_with D d = sym (map-append (λ (o : Declared). o.kind) D (d ∷ []))

pub grown : (D : List Declared) (T : List TemplateItem) (C : List Name) (n : ℕ) (V R : List Name) (d : Declared) → with_object (scope D T C n V R) d.name d.kind ≡ scope (D ++ d ∷ []) T C n V R
grown D T C n V R d = λ i. record { objects = names_with D d i; kinds = kinds_with D d i; clients = C; templates = template_names T; formals = template_formals T; blocks = n; variables = V; reserved = R }
