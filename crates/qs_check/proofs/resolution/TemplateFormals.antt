-- What is known after a template's text was walked without a fault: its formals are declared as objects, and they and
-- its variables are few. So its blocks can be resolved. It goes by induction on the formals.
use Rattle.std.proofs.Common.{◌≡◌, ◌≤◌, List, [], ◌∷◌, ◌++◌, length, map, ap, sym, ◌∙◌, subst, append_assoc, append-nil, Ok}
use Rattle.qs_script.specs.declared.tree.tree.Formal.{Formal}
use Rattle.qs_script.specs.declared.tree.tree.TemplateItem.{TemplateItem}
use Rattle.qs_program.specs.declared.program.Declared.{Declared}
use Rattle.qs_program.specs.audit.Limits.{most_objects, most_variables}
use Rattle.qs_program.specs.audit.Numbering.{Name}
use Rattle.qs_check.specs.audit.fault_places.Places.{Scope, object, scope_or_fault, start, formal_kind, formals_places, blocks_places, text_places}
use Rattle.qs_check.specs.audit.fault_places.Variables.{variables_of}
use Rattle.qs_check.proofs.fault_places.FinePlaces.{again}
use Rattle.qs_check.proofs.fault_places.Inner.{parted}
use Rattle.qs_check.proofs.fault_places.ScopesInBlocks.{none_yet, limits_met, blocks_stay}
use Rattle.qs_check.proofs.fault_places.Steps.{next_scope, split, ok_same, variables_met}
use Rattle.qs_check.specs.audit.resolution.Resolve.{as_client, declared_formals}
use Rattle.qs_check.proofs.resolution.Scopes.{names, kinds, scope, names_with, grown}
use Rattle.qs_check.proofs.resolution.FreshNames.{Fresh, fresh_more, no_fresh}

abbrev pub formal_names : List Formal → List Name
formal_names fs = map (λ (x : Formal). x.name) fs

abbrev pub declared : Formal → Declared
declared x = record { name = x.name; kind = formal_kind x.kind }

abbrev pub formals_scope : List Declared → Scope
formals_scope D = scope D [] [] 0 [] []

pub formals_from : (fs : List Formal) (D : List Declared) (t : Scope) → scope_or_fault (formals_scope D) (formals_places fs) ≡ Ok t → (t ≡ formals_scope (D ++ declared_formals fs)) × Fresh (names D) (formal_names fs)
formals_from [] D t h = (ok_same (formals_scope D) t h ∙ ap formals_scope (sym (append-nil D)), no_fresh (names D))
formals_from (x ∷ fs) D t h =
    let w = split (formals_scope D) t (object x.name (formal_kind x.kind)) (formals_places fs) h in
    let E = D ++ declared x ∷ [] in
    let more = formals_from fs E t (again (formals_scope E) t (next_scope (formals_scope D) (object x.name (formal_kind x.kind))) (formals_places fs) (grown D [] [] 0 [] [] (declared x)) w.1) in
    let P : List Name → Type 0 = λ ns. Fresh ns (formal_names fs) in (
      more.0 ∙ ap formals_scope (append_assoc D (declared x ∷ []) (declared_formals fs)),
      fresh_more (names D) x.name (formal_names fs) w.0.0 (subst P (sym (names_with D (declared x))) more.1),
    )

-- what is known after a template's text
pub record TextKnown (t : TemplateItem) (u : Scope) : Type 0 where
  pub objects : u.objects ≡ names (declared_formals t.formals)
  pub kinds : u.kinds ≡ kinds (declared_formals t.formals)
  pub variables : u.variables ≡ variables_of (as_client t)
  pub few_objects : length u.objects ≤ most_objects
  pub few_variables : length u.variables ≤ most_variables

pub text_known : (t : TemplateItem) (u : Scope) → scope_or_fault start (text_places t) ≡ Ok u → TextKnown t u
text_known t u h =
    let w = parted start u (formals_places t.formals) (blocks_places t.blocks) h in
    let g = formals_from t.formals [] w.0 w.1 in
    let F = declared_formals t.formals in
    let s = formals_scope F in
    let walk = again s u w.0 (blocks_places t.blocks) g.0 w.2 in
    let stay = blocks_stay s u t.blocks walk in
    let limits = limits_met start u (text_places t) h none_yet in
    record {
      objects = ap (λ v. v.objects) stay;
      kinds = ap (λ v. v.kinds) stay;
      variables = variables_met s u (blocks_places t.blocks) walk;
      few_objects = limits.objects;
      few_variables = limits.variables;
    }
