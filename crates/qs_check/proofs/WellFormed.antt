-- A script has no fault exactly where it is well formed, so the check refuses nothing that is right. The contract of
-- `check` and the law on faultless scripts stand on it. One direction reads the facts off a walk without a fault, the
-- other leads a walk through a well-formed script, both by induction on the items; then the load and the weight are
-- compared.
use Rattle.std.proofs.Common.{◌≡◌, ℕ, ◌+◌, ◌<◌, ◌≤◌, Bool, false, nat_lt, List, [], ◌∷◌, ◌++◌, length, Option, Some, None, refl, ap, sym, ◌∙◌, subst, arith, append_assoc, length-append, Result, Ok, Err, if◌then◌else◌, sum_by, le-ltb}
use Rattle.std.proofs.lemmas.Bool.Decides.{nat_tests}
use Rattle.std.proofs.lemmas.List.{length-map, length_push}
use Rattle.std.proofs.lemmas.List.Sums.{sum_by-cons}
use Rattle.std.specs.List.{AllByRecursion, IsDistinct}
use Rattle.qs_objects.specs.declared.object.Kind.{Kind}
use Rattle.qs_script.specs.tree.Form.{IsFormed, HasForm}
use Rattle.qs_script.specs.declared.tree.tree.Block.{Block}
use Rattle.qs_script.specs.declared.tree.tree.KindText.{KindText}
use Rattle.qs_script.specs.declared.tree.tree.KindText.TheVariants.{Account, Buffer, Grid}
use Rattle.qs_script.specs.declared.tree.tree.ObjectItem.{ObjectItem}
use Rattle.qs_script.specs.declared.tree.tree.TemplateItem.{TemplateItem}
use Rattle.qs_script.specs.declared.tree.tree.Item.{Item}
use Rattle.qs_script.specs.declared.tree.tree.Item.TheVariants.{Object, Client, Template, Started}
use Rattle.qs_check.specs.declared.fault_places.fault.CheckFault.{CheckFault}
use Rattle.qs_check.specs.declared.fault_places.fault.CheckFault.TheVariants as f
use Rattle.qs_program.specs.declared.program.Declared.{Declared}
use Rattle.qs_check.specs.audit.Checked.{excess_of, first_fault, fault_of}
use Rattle.qs_check.specs.Checked.{IsCheckOf}
use Rattle.qs_program.specs.audit.Loads.{weight_of}
use Rattle.qs_program.specs.audit.Numbering.{Name, same_name}
use Rattle.qs_check.specs.audit.fault_places.Places.{Scope, ScopeOrFault, number, object, client, template, text, starts, scope_or_fault, start, formal_kinds, fault_of_text, given_places, most_templates, with_template, kind_of, kind_places, item_places, blocks_places, script_places, with_object}
use Rattle.qs_program.specs.audit.Program.{BlockShape, ClientShape, ProgramShape, block_load, whole_load, whole_weight}
use Rattle.qs_program.specs.audit.Limits.{most_clients, most_objects, most_requests, most_steps, most_variables}
use Rattle.qs_check.specs.audit.fault_places.Variables.{variables_of}
use Rattle.qs_check.specs.audit.resolution.Resolve.{objects_of, names_of, kinds_of, clients_of, client_shape, declared_formals, started_of, template_called, templates_in, program_of_items}
use Rattle.qs_check.specs.TextLoads.{text_load, text_weight}
use Rattle.qs_check.specs.WellFormed.{IsKindInRange, IsWellFormedBlock, IsWellFormedClient, AreItems, client_names, IsWellFormed, FaultlessAreWellFormed, AcceptsWellFormed}
use Rattle.qs_check.proofs.fault_places.FinePlaces.{again}
use Rattle.qs_check.proofs.fault_places.Inner.{parted}
use Rattle.qs_check.proofs.fault_places.ScopesInBlocks.{InLimits, none_yet, limits_met, blocks_stay}
use Rattle.qs_check.proofs.Scripts.{few_variables, scripted, started_stays, template_stays}
use Rattle.qs_check.proofs.resolution.Scopes.{grown, names, names_with, scope, template_names}
use Rattle.qs_check.proofs.fault_places.Steps.{onward, split, ok_same}
use Rattle.qs_check.proofs.TextBlocks.{blocks_from, blocks_to}
use Rattle.qs_check.proofs.resolution.FreshNames.{Fresh, fresh_more, fresh_rest, no_fresh, unseen}
use Rattle.qs_check.proofs.TemplateTexts.{right_blocks, well_blocks, template_from, template_to, template_names_with, with_last}
use Rattle.qs_check.proofs.Starts.{started_from, started_met}
use Rattle.qs_check.proofs.TextLoads.{blocks_loads, blocks_weights}
use Rattle.qs_check.proofs.TextNames.{count_variables, distinct_last, no_names}
use Rattle.qs_check.proofs.fault_places.Walks.{met-then}

-- one more object
abbrev declared_as : ObjectItem → Declared
declared_as o = record { name = o.name; kind = kind_of o.kind }

abbrev with_one : List Declared → ObjectItem → List Declared
with_one D o = D ++ declared_as o ∷ []

-- the numbers of a kind
kind_from : (s t : Scope) (k : KindText) → scope_or_fault s (kind_places k) ≡ Ok t → IsKindInRange k × (t ≡ s)
kind_from s t (Account n) h = let w = split s t (number 0 1000000000000000 n) [] h in (w.0, ok_same s t w.1)
kind_from s t (Buffer n) h = let w = split s t (number 1 1024 n) [] h in (w.0, ok_same s t w.1)
kind_from s t (Grid r c) h =
    let w = split s t (number 1 16 r) (number 1 16 c ∷ []) h in
    let v = split s t (number 1 16 c) [] w.1 in
    ((w.0, v.0), ok_same s t v.1)

kind_to : (s : Scope) (k : KindText) → IsKindInRange k → scope_or_fault s (kind_places k) ≡ Ok s
kind_to s (Account n) h = onward s (number 0 1000000000000000 n) [] (Ok s) h refl
kind_to s (Buffer n) h = onward s (number 1 1024 n) [] (Ok s) h refl
kind_to s (Grid r c) h = onward s (number 1 16 r) (number 1 16 c ∷ []) (Ok s) h.0 (onward s (number 1 16 c) [] (Ok s) h.1 refl)

-- a script that is walked to its end
abbrev Ended : List Item → List Declared → List TemplateItem → List Name → Type 0
Ended items D T C =
    AreItems D T items × Fresh (names D) (names_of items) × Fresh C (client_names items) × Fresh (template_names T) (template_names (templates_in items))

items_from : (items : List Item) (D : List Declared) (T : List TemplateItem) (C : List Name) (n : ℕ) (V R : List Name) (t : Scope) → HasForm items → InLimits (scope D T C n V R) → scope_or_fault (scope D T C n V R) (script_places items) ≡ Ok t → Ended items D T C
items_from [] D T C n V R t form l h = (tt, no_fresh (names D), no_fresh C, no_fresh (template_names T))
items_from (Object o ∷ rest) D T C n V R t form l h =
    let s = scope D T C n V R in
    let w = parted s t (item_places (Object o)) (script_places rest) h in
    let v = split s w.0 (object o.name (kind_of o.kind)) (kind_places o.kind) w.1 in
    let k = kind_from (with_object s o.name (kind_of o.kind)) w.0 o.kind v.1 in
    let u = scope (with_one D o) T C n V R in
    let after : w.0 ≡ u = k.1 ∙ grown D T C n V R (declared_as o) in
    let more = items_from rest (with_one D o) T C n V R t form.1 (subst InLimits after (limits_met s w.0 (item_places (Object o)) w.1 l)) (again u t w.0 (script_places rest) after w.2) in
    let P : List Name → Type 0 = λ ns. Fresh ns (names_of rest) in
    ((k.0, more.0), fresh_more (names D) o.name (names_of rest) v.0.0 (subst P (sym (names_with D (declared_as o))) more.1), more.2, more.3)
items_from (Client c ∷ rest) D T C n V R t form l h =
    let s = scope D T C n V R in
    let w = parted s t (item_places (Client c)) (script_places rest) h in
    let v = split s w.0 (client c.name) (blocks_places c.blocks) w.1 in
    let begun = scope D T (C ++ c.name ∷ []) 0 [] [] in
    let u = scope D T (C ++ c.name ∷ []) (0 + length c.blocks) w.0.variables w.0.reserved in
    let after : w.0 ≡ u = blocks_stay begun w.0 c.blocks v.1 in
    let limits : InLimits u = subst InLimits after (limits_met s w.0 (item_places (Client c)) w.1 l) in
    let more = items_from rest D T (C ++ c.name ∷ []) (0 + length c.blocks) w.0.variables w.0.reserved t form.1 limits (again u t w.0 (script_places rest) after w.2) in
    let few : length (variables_of c) ≤ most_variables = few_variables s w.0 c l w.1 in
    let one : IsWellFormedClient D c = record {
      blocks = omega (arith, limits.blocks);
      variables = omega (arith, few, count_variables c);
      each = well_blocks D c.blocks (blocks_from D T (C ++ c.name ∷ []) c.blocks 0 [] [] w.0 v.1) form.0;
    } in
    ((one, more.0), more.1, fresh_more C c.name (client_names rest) v.0.0 more.2, more.3)
items_from (Template c ∷ rest) D T C n V R t form l h =
    let s = scope D T C n V R in
    let w = parted s t (item_places (Template c)) (script_places rest) h in
    let one = template_stays s w.0 c w.1 in
    let u = scope D (T ++ c ∷ []) C n V R in
    let after : w.0 ≡ u = one.2 ∙ with_last D T C n V R c in
    let more = items_from rest D (T ++ c ∷ []) C n V R t form.1 (subst InLimits after (limits_met s w.0 (item_places (Template c)) w.1 l)) (again u t w.0 (script_places rest) after w.2) in
    let P : List Name → Type 0 = λ ns. Fresh ns (template_names (templates_in rest)) in
    ((template_from c form.0 one.1, more.0), more.1, more.2, fresh_more (template_names T) c.name (template_names (templates_in rest)) one.0 (subst P (sym (template_names_with T c)) more.3))
items_from (Started c ∷ rest) D T C n V R t form l h =
    let s = scope D T C n V R in
    let w = parted s t (item_places (Started c)) (script_places rest) h in
    let one = started_stays s w.0 c w.1 in
    let u = scope D T (C ++ c.name ∷ []) 0 [] [] in
    let more = items_from rest D T (C ++ c.name ∷ []) 0 [] [] t form.1 (subst InLimits one.3 (limits_met s w.0 (item_places (Started c)) w.1 l)) (again u t w.0 (script_places rest) one.3 w.2) in
    ((started_from D T c one.1.0 one.1.1 one.2, more.0), more.1, fresh_more C c.name (client_names rest) one.0 more.2, more.3)

-- a script that is well formed is walked to its end
items_to : (items : List Item) (D : List Declared) (T : List TemplateItem) (C : List Name) (n : ℕ) (V R : List Name) → IsDistinct same_name (names D) → Fresh (names D) (names_of items) → Fresh C (client_names items) → Fresh (template_names T) (template_names (templates_in items)) → length (names D) + length (names_of items) ≤ most_objects → length C + length (client_names items) ≤ most_clients → length T + length (templates_in items) ≤ most_templates → AreItems D T items → (t : Scope) × (scope_or_fault (scope D T C n V R) (script_places items) ≡ Ok t)
items_to [] D T C n V R apart fresh others texts few few_clients few_texts each = (scope D T C n V R, refl)
items_to (Object o ∷ rest) D T C n V R apart fresh others texts few few_clients few_texts (kind, each) =
    let s = scope D T C n V R in
    let w = fresh_rest (names D) o.name (names_of rest) fresh in
    let P : List Name → Type 0 = λ ns. IsDistinct same_name ns in
    let Q : List Name → Type 0 = λ ns. Fresh ns (names_of rest) in
    let with_name = names_with D (declared_as o) in
    let room : length (names D) < most_objects = omega arith in
    let u = with_object s o.name (kind_of o.kind) in
    let fewer : length (names (with_one D o)) + length (names_of rest) ≤ most_objects =
    omega (arith, few, ap length (sym with_name), length_push (names D) o.name) in
    let more = items_to rest (with_one D o) T C n V R (subst P with_name (distinct_last (names D) o.name apart w.0)) (subst Q with_name w.1) others texts fewer few_clients few_texts each in (
      more.0,
      onward s (object o.name (kind_of o.kind)) (kind_places o.kind ++ script_places rest) (Ok more.0) (w.0, room)
          (met-then u u (kind_places o.kind) (script_places rest) (kind_to u o.kind kind) ∙ ap (λ v. scope_or_fault v (script_places rest)) (grown D T C n V R (declared_as o)) ∙ more.1),
    )
items_to (Client c ∷ rest) D T C n V R apart fresh others texts few few_clients few_texts (one, each) =
    let s = scope D T C n V R in
    let w = fresh_rest C c.name (client_names rest) others in
    let begun = scope D T (C ++ c.name ∷ []) 0 [] [] in
    let room : length C < most_clients = omega arith in
    let small : length (variables_of c) ≤ most_variables = omega (arith, one.variables, count_variables c) in
    let b = blocks_to D T (C ++ c.name ∷ []) apart c.blocks 0 [] [] (omega (arith, one.blocks)) small (right_blocks D c.blocks one.each) in
    let fewer : length (C ++ c.name ∷ []) + length (client_names rest) ≤ most_clients = omega (arith, few_clients, length_push C c.name) in
    let more = items_to rest D T (C ++ c.name ∷ []) b.2 (variables_of c) b.3 apart fresh w.1 texts few fewer few_texts each in (
      more.0,
      onward s (client c.name) (blocks_places c.blocks ++ script_places rest) (Ok more.0) (w.0, room)
          (met-then begun b.0 (blocks_places c.blocks) (script_places rest) b.1 ∙ ap (λ v. scope_or_fault v (script_places rest)) b.4 ∙ more.1),
    )
items_to (Template c ∷ rest) D T C n V R apart fresh others texts few few_clients few_texts (one, each) =
    let s = scope D T C n V R in
    let ts = template_names (templates_in rest) in
    let w = fresh_rest (template_names T) c.name ts texts in
    let Q : List Name → Type 0 = λ ns. Fresh ns ts in
    let ks = formal_kinds c.formals in
    let u = with_template s c.name ks in
    let room : length (template_names T) < most_templates = omega (arith, few_texts, length-map T (λ (t : TemplateItem). t.name)) in
    let fewer : length (T ++ c ∷ []) + length (templates_in rest) ≤ most_templates = omega (arith, few_texts, length-append T (c ∷ [])) in
    let more = items_to rest D (T ++ c ∷ []) C n V R apart fresh others (subst Q (template_names_with T c) w.1) few few_clients fewer each in (
      more.0,
      onward s (template c.name ks) (text (fault_of_text c) ∷ script_places rest) (Ok more.0) (w.0, room)
          (onward u (text (fault_of_text c)) (script_places rest) (Ok more.0) (template_to c one)
          (ap (λ v. scope_or_fault v (script_places rest)) (with_last D T C n V R c) ∙ more.1)),
    )
items_to (Started c ∷ rest) D T C n V R apart fresh others texts few few_clients few_texts (one, each) =
    let s = scope D T C n V R in
    let w = fresh_rest C c.name (client_names rest) others in
    let begun = scope D T (C ++ c.name ∷ []) 0 [] [] in
    let room : length C < most_clients = omega arith in
    let fewer : length (C ++ c.name ∷ []) + length (client_names rest) ≤ most_clients = omega (arith, few_clients, length_push C c.name) in
    let more = items_to rest D T (C ++ c.name ∷ []) 0 [] [] apart fresh w.1 texts few fewer few_texts each in (
      more.0,
      onward s (client c.name) (starts c.template (length c.objects) ∷ (given_places c.template 0 c.objects ++ script_places rest)) (Ok more.0) (w.0, room)
          (started_met D T (C ++ c.name ∷ []) apart c one (script_places rest) ∙ more.1),
    )

-- loads and weights
items_loads : (items : List Item) (D : List Declared) (T S : List TemplateItem) (N : List Name) (K : List Kind) → N ≡ names D ++ names_of items → AreItems D S items → sum_by (λ (c : ClientShape). sum_by block_load c.blocks) (clients_of T N K items) ≡ text_load T N items
items_loads [] D T S N K front each = refl
items_loads (Object o ∷ rest) D T S N K front (kind, each) =
    items_loads rest (with_one D o) T S N K (front ∙ sym (append_assoc (names D) (o.name ∷ []) (names_of rest)) ∙ ap (λ ns. ns ++ names_of rest) (names_with D (declared_as o))) each
items_loads (Client c ∷ rest) D T S N K front (one, each) =
    rw (sum_by-cons (λ (c : ClientShape). sum_by block_load c.blocks) (client_shape N K c) (clients_of T N K rest))
    (omega (arith, blocks_loads N K (variables_of c) D (names_of rest) front c.blocks (right_blocks D c.blocks one.each), items_loads rest D T S N K front each))
items_loads (Template c ∷ rest) D T S N K front (one, each) = items_loads rest D T (S ++ c ∷ []) N K front each
items_loads (Started c ∷ rest) D T S N K front (one, each) =
    rw (sum_by-cons (λ (c : ClientShape). sum_by block_load c.blocks) (started_of N (template_called T c.template) c) (clients_of T N K rest))
    (omega (arith, items_loads rest D T S N K front each))

items_weights : (items : List Item) (T : List TemplateItem) (N : List Name) (K : List Kind) → sum_by (λ (c : ClientShape). sum_by (λ (b : BlockShape). weight_of b.body) c.blocks) (clients_of T N K items) ≡ text_weight T N items
items_weights [] T N K = refl
items_weights (Object o ∷ rest) T N K = items_weights rest T N K
items_weights (Client c ∷ rest) T N K =
    rw (sum_by-cons (λ (c : ClientShape). sum_by (λ (b : BlockShape). weight_of b.body) c.blocks) (client_shape N K c) (clients_of T N K rest))
    (omega (arith, blocks_weights N K (variables_of c) c.blocks, items_weights rest T N K))
items_weights (Template c ∷ rest) T N K = items_weights rest T N K
items_weights (Started c ∷ rest) T N K =
    rw (sum_by-cons (λ (c : ClientShape). sum_by (λ (b : BlockShape). weight_of b.body) c.blocks) (started_of N (template_called T c.template) c) (clients_of T N K rest))
    (omega (arith, items_weights rest T N K))

-- limits of loads and weights
no_excess : (l w : Bool) → (if l then Some f.Load else (if w then Some f.Weight else None)) ≡ None → (l ≡ false) × (w ≡ false)
no_excess false false h = (refl, refl)
no_excess _ _ h = absurd (cc)

at_most : (limit n : ℕ) → nat_lt limit n ≡ false → n ≤ limit
at_most limit n h = grind (arith, nat_tests)

pub within_limits : (p : ProgramShape) → excess_of p ≡ None → (whole_load p ≤ most_requests) × (whole_weight p ≤ most_steps)
within_limits p h =
    let w = no_excess (nat_lt 100000 (whole_load p)) (nat_lt 1000000 (whole_weight p)) h in
    (at_most 100000 (whole_load p) w.0, at_most 1000000 (whole_weight p) w.1)

pub no_fault_left : (p : ProgramShape) → whole_load p ≤ most_requests → whole_weight p ≤ most_steps → excess_of p ≡ None
no_fault_left p h k = rw (le-ltb 100000 (whole_load p) h, le-ltb 1000000 (whole_weight p) k) refl

pub ends_well : (m : ScopeOrFault) (after : Option CheckFault) → first_fault m after ≡ None → (t : Scope) × (m ≡ Ok t) × (after ≡ None)
ends_well (Ok t) after h = (t, refl, h)
ends_well (Err e) after h = absurd (cc)

pub well_formed_from : (items : List Item) → HasForm items → fault_of items ≡ None → IsWellFormed items
well_formed_from items form h =
    let w = ends_well (scope_or_fault start (script_places items)) (excess_of (program_of_items items)) h in
    let all = (scripted items start w.0 none_yet w.1).known in
    let few = limits_met start w.0 (script_places items) w.1 none_yet in
    let each = items_from items [] [] [] 0 [] [] w.0 form none_yet w.1 in
    let limits = within_limits (program_of_items items) w.2 in
    record {
      objects = omega (arith, few.objects, ap (λ (u : Scope). length u.objects) all, length-map (objects_of items) (λ (o : Declared). o.name));
      objects_apart = each.1.1;
      clients = omega (arith, few.clients, ap (λ (u : Scope). length u.clients) all);
      clients_apart = each.2.1;
      templates = omega (arith, few.templates, ap (λ (u : Scope). length u.templates) all, length-map (templates_in items) (λ (t : TemplateItem). t.name));
      templates_apart = each.3.1;
      each = each.0;
      load = omega (arith, limits.0, items_loads items [] (templates_in items) [] (names_of items) (kinds_of items) refl each.0);
      weight = omega (arith, limits.1, items_weights items (templates_in items) (names_of items) (kinds_of items));
    }

well_formed_to : (items : List Item) → IsWellFormed items → fault_of items ≡ None
well_formed_to items well =
    let few : length (names_of items) ≤ most_objects = omega (arith, well.objects, length-map (objects_of items) (λ (o : Declared). o.name)) in
    let w = items_to items [] [] [] 0 [] [] no_names (unseen (names_of items), well.objects_apart) (unseen (client_names items), well.clients_apart) (unseen (template_names (templates_in items)), well.templates_apart) (omega (arith, few)) (omega (arith, well.clients)) (omega (arith, well.templates)) well.each in
    let load : whole_load (program_of_items items) ≤ most_requests = omega (arith, well.load, items_loads items [] (templates_in items) [] (names_of items) (kinds_of items) refl well.each) in
    let weight : whole_weight (program_of_items items) ≤ most_steps = omega (arith, well.weight, items_weights items (templates_in items) (names_of items) (kinds_of items)) in
    ap (λ m. first_fault m (excess_of (program_of_items items))) w.1 ∙ no_fault_left (program_of_items items) load weight

formed_blocks : (D : List Declared) (bs : List Block) → AllByRecursion (IsWellFormedBlock D) bs → AllByRecursion IsFormed bs
formed_blocks D [] h = tt
formed_blocks D (b ∷ bs) h = (record { some = h.0.some; shallow = h.0.levels }, formed_blocks D bs h.1)

formed_items : (items : List Item) (D : List Declared) (T : List TemplateItem) → AreItems D T items → HasForm items
formed_items [] D T h = tt
formed_items (Object o ∷ rest) D T (kind, h) = (tt, formed_items rest (with_one D o) T h)
formed_items (Client c ∷ rest) D T (one, h) = (formed_blocks D c.blocks one.each, formed_items rest D T h)
formed_items (Template c ∷ rest) D T (one, h) = (formed_blocks (declared_formals c.formals) c.blocks one.client.each, formed_items rest D (T ++ c ∷ []) h)
formed_items (Started c ∷ rest) D T (one, h) = (tt, formed_items rest D T h)

pub faultless_are_well_formed : FaultlessAreWellFormed
faultless_are_well_formed items =
    (λ h. well_formed_from items h.0 h.1, λ (well : IsWellFormed items). (formed_items items [] [] well.each, well_formed_to items well))

-- the same, of what a check answers
pub accepts_well_formed : (items : List Item) (r : Result ProgramShape CheckFault) → HasForm items → IsCheckOf items r → AcceptsWellFormed items r
accepts_well_formed items (Ok p) form h = well_formed_from items form h.0
accepts_well_formed items (Err fault) form h = λ other well. some_none (sym (h other) ∙ well_formed_to items well)
  where
    some_none : {P : Type 0} → Some fault ≡ None → P
    some_none e = cc
