-- When a script is walked with no fault, the scope at the end has its objects and kinds in order, their numbers are
-- within the limits, and each object has a starting state. The proofs that such a script is well formed and makes a
-- sound program begin from this. It goes by induction on the items, with a case for an object and a case for a client.
use Rattle.std.proofs.Common.{◌≡◌, ℕ, suc, ◌≤◌, Bool, true, false, ◌&&◌, nat_le, List, [], ◌∷◌, ◌++◌, length, IsSome, Some, None, refl, ap, ◌∙◌, arith, append_assoc, append-nil, Ok, if◌then◌else◌}
use Rattle.std.proofs.lemmas.Bool.Decides.{nat_tests}
use Rattle.std.specs.List.{AllByRecursion}
use Rattle.std.proofs.lemmas.Bool.{and_from}
use Rattle.qs_objects.specs.audit.Objects.{starts}
use Rattle.qs_script.specs.declared.tree.tree.KindText.{KindText}
use Rattle.qs_script.specs.declared.tree.tree.KindText.TheVariants.{Account, Buffer, Grid}
use Rattle.qs_script.specs.declared.tree.tree.ObjectItem.{ObjectItem}
use Rattle.qs_script.specs.declared.tree.tree.ClientItem.{ClientItem}
use Rattle.qs_script.specs.declared.tree.tree.TemplateItem.{TemplateItem}
use Rattle.qs_script.specs.declared.tree.tree.StartedItem.{StartedItem}
use Rattle.qs_script.specs.declared.tree.tree.Item.{Item}
use Rattle.qs_script.specs.declared.tree.tree.Item.TheVariants.{Object, Client, Template, Started}
use Rattle.qs_objects.specs.declared.object.Kind.{Kind}
use Rattle.qs_program.specs.declared.program.Declared.{Declared}
use Rattle.qs_program.specs.audit.Limits.{most_variables}
use Rattle.qs_program.specs.audit.Kinds.{same_kind}
use Rattle.qs_program.specs.audit.Numbering.{Name, is_among, found_at}
use Rattle.qs_check.specs.audit.fault_places.Places.{Scope, object, number, client, template, text, starts as begins, given, scope_or_fault, formal_kinds, formals_at, fault_of_text, given_places, kind_in, with_template, kind_of, kind_places, item_places, blocks_places, script_places, with_object, with_client}
use Rattle.qs_check.specs.audit.fault_places.Variables.{variables_of}
use Rattle.qs_check.specs.audit.resolution.Resolve.{objects_of, names_of, kinds_of, templates_in}
use Rattle.qs_check.specs.resolution.Resolve.{AreFaultless, variable_lists}
use Rattle.qs_check.specs.WellFormed.{client_names}
use Rattle.qs_check.proofs.fault_places.Steps.{split, variables_met, ok_same}
use Rattle.qs_check.proofs.fault_places.Inner.{parted}
use Rattle.qs_check.proofs.fault_places.ScopesInBlocks.{InBlock, InLimits, in_block, stays, blocks_stay, limits_met}
use Rattle.qs_check.proofs.resolution.Scopes.{template_names, template_formals}

fine_kind : (k : KindText) → InBlock (kind_places k)
fine_kind (Account n) = (λ s. refl, tt)
fine_kind (Buffer n) = (λ s. refl, tt)
fine_kind (Grid r c) = (λ s. refl, (λ s. refl, tt))

-- after an object's declaration
pub object_stays : (s t : Scope) (o : ObjectItem) → scope_or_fault s (item_places (Object o)) ≡ Ok t → t ≡ in_block (with_object s o.name (kind_of o.kind)) t
object_stays s t o h =
    stays (with_object s o.name (kind_of o.kind)) t (kind_places o.kind) (fine_kind o.kind) (split s t (object o.name (kind_of o.kind)) (kind_places o.kind) h).1

-- after a client
pub client_stays : (s t : Scope) (c : ClientItem) → scope_or_fault s (item_places (Client c)) ≡ Ok t → scope_or_fault (with_client s c.name) (blocks_places c.blocks) ≡ Ok t
client_stays s t c h = (split s t (client c.name) (blocks_places c.blocks) h).1

pub few_variables : (s t : Scope) (c : ClientItem) → InLimits s → scope_or_fault s (item_places (Client c)) ≡ Ok t → length (variables_of c) ≤ most_variables
few_variables s t c l h =
    rw (← variables_met (with_client s c.name) t (blocks_places c.blocks) (client_stays s t c h)) (limits_met s t (item_places (Client c)) h l).variables

-- after a template: its text has no fault
pub template_stays : (s t : Scope) (c : TemplateItem) → scope_or_fault s (item_places (Template c)) ≡ Ok t → (is_among s.templates c.name ≡ false) × (fault_of_text c ≡ None) × (t ≡ with_template s c.name (formal_kinds c.formals))
template_stays s t c h =
    let u = with_template s c.name (formal_kinds c.formals) in
    let w = split s t (template c.name (formal_kinds c.formals)) (text (fault_of_text c) ∷ []) h in
    let v = split u t (text (fault_of_text c)) [] w.1 in
    (w.0.0, v.0, ok_same u t v.1)

-- the objects that are given from a place on are declared, and each is of its formal's kind
abbrev pub AllMatch : List Name → List Kind → List Kind → ℕ → List Name → Type 0
AllMatch N K formals i [] = Unit {0}
AllMatch N K formals i (o ∷ os) =
    ((is_among N o ≡ true) × (same_kind (kind_in formals i) (kind_in K (found_at N o)) ≡ true)) × AllMatch N K formals (suc i) os

pub given_stays : (os : List Name) (i : ℕ) (n : Name) (s t : Scope) → scope_or_fault s (given_places n i os) ≡ Ok t → (t ≡ s) × AllMatch s.objects s.kinds (formals_at s.templates s.formals n) i os
given_stays [] i n s t h = (ok_same s t h, tt)
given_stays (o ∷ os) i n s t h =
    let w = split s t (given n i o) (given_places n (suc i) os) h in
    let more = given_stays os (suc i) n s t w.1 in
    (more.0, (w.0, more.1))

-- after a client of a template
pub started_stays : (s t : Scope) (c : StartedItem) → scope_or_fault s (item_places (Started c)) ≡ Ok t
    → (is_among s.clients c.name ≡ false) × ((is_among s.templates c.template ≡ true) × (length (formals_at s.templates s.formals c.template) ≡ length c.objects)) × AllMatch s.objects s.kinds (formals_at s.templates s.formals c.template) 0 c.objects × (t ≡ with_client s c.name)
started_stays s t c h =
    let begun = with_client s c.name in
    let rest = given_places c.template 0 c.objects in
    let w = split s t (client c.name) (begins c.template (length c.objects) ∷ rest) h in
    let v = split begun t (begins c.template (length c.objects)) rest w.1 in
    let g = given_stays c.objects 0 c.template begun t v.1 in
    (w.0.0, v.0, g.1, g.0)

both : (a b : ℕ) (n : ℕ) → a ≤ n → n ≤ b → (nat_le a n && nat_le n b) ≡ true
both a b n h k = grind (arith, nat_tests)

some_if : {A : Type 0} (b : Bool) (x : A) → b ≡ true → IsSome (if b then Some x else None)
some_if true x h = refl
some_if false x h = cc

-- a kind's numbers are in range
kind_starts : (s t : Scope) (k : KindText) → scope_or_fault s (kind_places k) ≡ Ok t → IsSome (starts (kind_of k))
kind_starts s t (Account n) h =
    let w = split s t (number 0 1000000000000000 n) [] h in some_if _ _ (both 0 1000000000000000 n w.0.0 w.0.1)
kind_starts s t (Buffer n) h =
    let w = split s t (number 1 1024 n) [] h in some_if _ _ (both 1 1024 n w.0.0 w.0.1)
kind_starts s t (Grid r c) h =
    let w = split s t (number 1 16 r) (number 1 16 c ∷ []) h in
    let v = split s t (number 1 16 c) [] w.1 in
    some_if _ _ (and_from _ _ (both 1 16 r w.0.0 w.0.1) (both 1 16 c v.0.0 v.0.1))

object_starts : (s t : Scope) (o : ObjectItem) → scope_or_fault s (item_places (Object o)) ≡ Ok t → IsSome (starts (kind_of o.kind))
object_starts s t o h = kind_starts (with_object s o.name (kind_of o.kind)) t o.kind (split s t (object o.name (kind_of o.kind)) (kind_places o.kind) h).1

-- what is known after some items, with the blocks, the variables and the list of the last client
abbrev pub after_items : Scope → List Item → Scope → Scope
after_items s items t = record t {
  objects = s.objects ++ names_of items;
  kinds = s.kinds ++ kinds_of items;
  clients = s.clients ++ client_names items;
  templates = s.templates ++ template_names (templates_in items);
  formals = s.formals ++ template_formals (templates_in items);
}

-- a script's items, from what is known before to what is known after them
pub record Scripted (s t : Scope) (items : List Item) : Type 0 where
  pub known : t ≡ after_items s items t
  pub few_variables : AllByRecursion (λ v. length v ≤ most_variables) (variable_lists items)
  pub starting : AllByRecursion (λ (o : Declared). IsSome (starts o.kind)) (objects_of items)
  pub faultless : AreFaultless (templates_in items)

pub scripted : (items : List Item) (s t : Scope) → InLimits s → scope_or_fault s (script_places items) ≡ Ok t → Scripted s t items
scripted [] s t l h = record { known = rw (ok_same s t h) (simp append-nil); few_variables = tt; starting = tt; faultless = tt }
scripted (Object o ∷ rest) s t l h =
    let w = parted s t (item_places (Object o)) (script_places rest) h in
    let more = scripted rest w.0 t (limits_met s w.0 (item_places (Object o)) w.1 l) w.2 in
    record {
      known = more.known ∙ ap (λ u. after_items u rest t) (object_stays s w.0 o w.1) ∙ simp append_assoc;
      few_variables = more.few_variables;
      starting = (object_starts s w.0 o w.1, more.starting);
      faultless = more.faultless;
    }
scripted (Client c ∷ rest) s t l h =
    let w = parted s t (item_places (Client c)) (script_places rest) h in
    let more = scripted rest w.0 t (limits_met s w.0 (item_places (Client c)) w.1 l) w.2 in
    record {
      known = more.known ∙ ap (λ u. after_items u rest t) (blocks_stay (with_client s c.name) w.0 c.blocks (client_stays s w.0 c w.1)) ∙ simp append_assoc;
      few_variables = (few_variables s w.0 c l w.1, more.few_variables);
      starting = more.starting;
      faultless = more.faultless;
    }
scripted (Template c ∷ rest) s t l h =
    let w = parted s t (item_places (Template c)) (script_places rest) h in
    let more = scripted rest w.0 t (limits_met s w.0 (item_places (Template c)) w.1 l) w.2 in
    let one = template_stays s w.0 c w.1 in
    record {
      known = more.known ∙ ap (λ u. after_items u rest t) one.2 ∙ simp append_assoc;
      few_variables = more.few_variables;
      starting = more.starting;
      faultless = (one.1, more.faultless);
    }
scripted (Started c ∷ rest) s t l h =
    let w = parted s t (item_places (Started c)) (script_places rest) h in
    let more = scripted rest w.0 t (limits_met s w.0 (item_places (Started c)) w.1 l) w.2 in
    record {
      known = more.known ∙ ap (λ u. after_items u rest t) (started_stays s w.0 c w.1).3 ∙ simp append_assoc;
      few_variables = more.few_variables;
      starting = more.starting;
      faultless = more.faultless;
    }
