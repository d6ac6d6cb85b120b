-- A template's formals and blocks are walked by themselves without a fault exactly where the template is well formed.
-- The proof that well-formed scripts are those without a fault needs both directions. Formals are walked as objects, by
-- induction on their list; then the blocks are those of a client that has these objects.
use Rattle.std.proofs.Common.{◌≡◌, ℕ, ◌+◌, ◌<◌, ◌≤◌, true, List, [], ◌∷◌, ◌++◌, length, None, refl, ap, sym, ◌∙◌, subst, arith, append_assoc, append-nil, Ok, Err}
use Rattle.std.proofs.lemmas.Map.Made.{is_member-Decides}
use Rattle.std.specs.List.{AllByRecursion, IsDistinct}
use Rattle.std.proofs.lemmas.List.{length-map, length_push, map-append}
use Rattle.qs_script.specs.tree.Form.{IsFormed}
use Rattle.qs_script.specs.declared.tree.tree.Block.{Block}
use Rattle.qs_script.specs.declared.tree.tree.Formal.{Formal}
use Rattle.qs_script.specs.declared.tree.tree.TemplateItem.{TemplateItem}
use Rattle.qs_program.specs.declared.program.Declared.{Declared}
use Rattle.qs_program.specs.audit.Limits.{most_blocks, most_objects, most_variables}
use Rattle.qs_program.specs.Limits.{most_formals}
use Rattle.qs_program.specs.audit.Numbering.{Name, same_name, is_among}
use Rattle.qs_check.specs.audit.fault_places.Places.{Scope, ScopeOrFault, object, scope_or_fault, start, fault_in, fault_of_text, formal_kind, formal_kinds, formals_places, blocks_places, text_places, with_template}
use Rattle.qs_check.specs.audit.fault_places.Variables.{variables_of}
use Rattle.qs_check.specs.audit.resolution.Resolve.{as_client, declared_formals}
use Rattle.qs_check.specs.WellFormed.{IsDeclared, IsWellFormedBlock, IsWellFormedTemplate}
use Rattle.qs_check.proofs.fault_places.FinePlaces.{again}
use Rattle.qs_check.proofs.fault_places.Inner.{parted}
use Rattle.qs_check.proofs.fault_places.ScopesInBlocks.{none_yet, limits_met, blocks_stay}
use Rattle.qs_check.proofs.resolution.Scopes.{names, kinds, scope, template_names, template_formals, names_with, grown}
use Rattle.qs_check.proofs.fault_places.Steps.{onward, variables_met}
use Rattle.qs_check.proofs.TextBlocks.{IsRight, blocks_from, blocks_to}
use Rattle.qs_check.proofs.resolution.FreshNames.{Fresh, fresh_rest, unseen}
use Rattle.qs_check.proofs.TextNames.{count_variables}
use Rattle.qs_check.proofs.resolution.TemplateFormals.{declared, formal_names, formals_from, formals_scope}
use Rattle.qs_check.proofs.TextRequests.{same_decides}
use Rattle.qs_check.proofs.fault_places.Walks.{met-then}

-- one more template
pub template_names_with : (T : List TemplateItem) (t : TemplateItem) → template_names T ++ t.name ∷ [] ≡ template_names (T ++ t ∷ [])
template_names_with T t = sym (map-append (λ (u : TemplateItem). u.name) T (t ∷ []))

formals_with : (T : List TemplateItem) (t : TemplateItem) → template_formals T ++ formal_kinds t.formals ∷ [] ≡ template_formals (T ++ t ∷ [])
formals_with T t = sym (map-append (λ (u : TemplateItem). formal_kinds u.formals) T (t ∷ []))

pub with_last : (D : List Declared) (T : List TemplateItem) (C : List Name) (n : ℕ) (V R : List Name) (t : TemplateItem) → with_template (scope D T C n V R) t.name (formal_kinds t.formals) ≡ scope D (T ++ t ∷ []) C n V R
with_last D T C n V R t = λ i. record { objects = names D; kinds = kinds D; clients = C; templates = template_names_with T t i; formals = formals_with T t i; blocks = n; variables = V; reserved = R }

-- lists of declared names
pub declared_from : (D : List Declared) (ns : List Name) → AllByRecursion (λ o. is_among (names D) o ≡ true) ns → AllByRecursion (IsDeclared D) ns
declared_from D [] h = tt
declared_from D (n ∷ ns) h = ((is_member-Decides same_decides (names D) n).0 h.0, declared_from D ns h.1)

pub declared_to : (D : List Declared) (ns : List Name) → AllByRecursion (IsDeclared D) ns → AllByRecursion (λ o. is_among (names D) o ≡ true) ns
declared_to D [] h = tt
declared_to D (n ∷ ns) h = ((is_member-Decides same_decides (names D) n).1 h.0, declared_to D ns h.1)

pub well_blocks : (D : List Declared) (bs : List Block) → AllByRecursion (IsRight D) bs → AllByRecursion IsFormed bs → AllByRecursion (IsWellFormedBlock D) bs
well_blocks D [] h k = tt
well_blocks D (b ∷ bs) h k = (
  record { some = k.0.some; declares = declared_from D b.reserved h.0.declares; distinct = h.0.distinct; statements = h.0.statements; levels = k.0.shallow },
  well_blocks D bs h.1 k.1,
)

pub right_blocks : (D : List Declared) (bs : List Block) → AllByRecursion (IsWellFormedBlock D) bs → AllByRecursion (IsRight D) bs
right_blocks D [] h = tt
right_blocks D (b ∷ bs) h =
    (record { declares = declared_to D b.reserved h.0.declares; distinct = h.0.distinct; statements = h.0.statements }, right_blocks D bs h.1)

-- ---- formals as objects

formals_to : (fs : List Formal) (D : List Declared) → Fresh (names D) (formal_names fs) → length (names D) + length fs ≤ most_objects → scope_or_fault (formals_scope D) (formals_places fs) ≡ Ok (formals_scope (D ++ declared_formals fs))
formals_to [] D fresh few = ap (λ E. Ok (formals_scope E)) (sym (append-nil D))
formals_to (x ∷ fs) D fresh few =
    let s = formals_scope D in
    let w = fresh_rest (names D) x.name (formal_names fs) fresh in
    let E = D ++ declared x ∷ [] in
    let Q : List Name → Type 0 = λ ns. Fresh ns (formal_names fs) in
    let with_name = names_with D (declared x) in
    let room : length (names D) < most_objects = omega arith in
    let fewer : length (names E) + length fs ≤ most_objects = omega (arith, few, ap length (sym with_name), length_push (names D) x.name) in
    onward s (object x.name (formal_kind x.kind)) (formals_places fs) (Ok (formals_scope (D ++ declared_formals (x ∷ fs)))) (w.0, room)
    (ap (λ v. scope_or_fault v (formals_places fs)) (grown D [] [] 0 [] [] (declared x))
    ∙ formals_to fs E (subst Q with_name w.1) fewer
    ∙ ap (λ F. Ok (formals_scope F)) (append_assoc D (declared x ∷ []) (declared_formals fs)))

formal_names_same : (fs : List Formal) → names (declared_formals fs) ≡ formal_names fs
formal_names_same [] = refl
formal_names_same (x ∷ fs) = ap (λ ns. x.name ∷ ns) (formal_names_same fs)

-- ---- the text of a template

faultless : (m : ScopeOrFault) → fault_in m ≡ None → (t : Scope) × (m ≡ Ok t)
faultless (Ok t) h = (t, refl)
faultless (Err e) h = cc

-- where a template's text has no fault: its formals, and the walk over its blocks
pub record TextWalked (t : TemplateItem) : Type 0 where
  pub last : Scope
  pub walk : scope_or_fault (formals_scope (declared_formals t.formals)) (blocks_places t.blocks) ≡ Ok last
  pub fresh : Fresh [] (formal_names t.formals)
  pub few_formals : length t.formals ≤ most_formals
  pub few_variables : length (variables_of (as_client t)) ≤ most_variables
  pub few_blocks : length t.blocks ≤ most_blocks
  pub all : scope_or_fault start (text_places t) ≡ Ok last

pub text_walked : (t : TemplateItem) (u : Scope) → scope_or_fault start (text_places t) ≡ Ok u → TextWalked t
text_walked t u h =
    let w = parted start u (formals_places t.formals) (blocks_places t.blocks) h in
    let g = formals_from t.formals [] w.0 w.1 in
    let s = formals_scope (declared_formals t.formals) in
    let walk = again s u w.0 (blocks_places t.blocks) g.0 w.2 in
    let limits = limits_met start u (text_places t) h none_yet in
    record {
      last = u;
      walk = walk;
      fresh = g.1;
      few_formals = omega (arith, limits.objects, ap (λ v. length v.objects) (blocks_stay s u t.blocks walk), ap length (formal_names_same t.formals), length-map t.formals (λ (x : Formal). x.name));
      few_variables = rw (← variables_met s u (blocks_places t.blocks) walk) limits.variables;
      few_blocks = omega (arith, limits.blocks, ap (λ v. v.blocks) (blocks_stay s u t.blocks walk));
      all = h;
    }

pub template_from : (t : TemplateItem) → AllByRecursion IsFormed t.blocks → fault_of_text t ≡ None → IsWellFormedTemplate t
template_from t form h =
    let m = faultless (scope_or_fault start (text_places t)) h in
    let w = text_walked t m.0 m.1 in
    let F = declared_formals t.formals in
    record {
      formals = w.few_formals;
      apart = w.fresh.1;
      client = record {
        blocks = w.few_blocks;
        variables = omega (arith, w.few_variables, count_variables (as_client t));
        each = well_blocks F t.blocks (blocks_from F [] [] t.blocks 0 [] [] w.last w.walk) form;
      };
    }

pub formals_apart : (t : TemplateItem) → IsWellFormedTemplate t → IsDistinct same_name (names (declared_formals t.formals))
formals_apart t well = let P : List Name → Type 0 = λ ns. IsDistinct same_name ns in subst P (sym (formal_names_same t.formals)) well.apart

pub text_to : (t : TemplateItem) → IsWellFormedTemplate t → (u : Scope) × (scope_or_fault start (text_places t) ≡ Ok u)
text_to t well =
    let F = declared_formals t.formals in
    let g = formals_to t.formals [] (unseen (formal_names t.formals), well.apart) (omega (arith, well.formals)) in
    let small : length (variables_of (as_client t)) ≤ most_variables = omega (arith, well.client.variables, count_variables (as_client t)) in
    let b = blocks_to F [] [] (formals_apart t well) t.blocks 0 [] [] (omega (arith, well.client.blocks)) small (right_blocks F t.blocks well.client.each) in
    (b.0, met-then start (formals_scope F) (formals_places t.formals) (blocks_places t.blocks) g ∙ b.1)

pub template_to : (t : TemplateItem) → IsWellFormedTemplate t → fault_of_text t ≡ None
template_to t well = ap fault_in (text_to t well).1
