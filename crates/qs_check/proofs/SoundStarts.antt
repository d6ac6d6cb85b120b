-- A client of a template is sound where its template is well formed and each object that is given is declared and of
-- its formal's kind. The soundness of whole programs stands on it. The template's blocks are sound over its formals,
-- since its text is walked without a fault, and stay so once each formal stands for its object.
use Rattle.std.proofs.Common.{◌≡◌, ℕ, zero, suc, ◌<◌, true, false, if◌then◌else◌, Bool, List, [], ◌∷◌, ◌++◌, length, map, slice_index_or, Option, Some, refl, ap, sym, ◌∙◌, subst, arith, append_assoc}
use Rattle.std.proofs.lemmas.List.{length-map}
use Rattle.std.specs.List.{AllByRecursion, IsDistinct}
use Rattle.std.proofs.lemmas.List.Elements.{Contains-append_left}
use Rattle.qs_script.specs.declared.tree.tree.Formal.{Formal}
use Rattle.qs_script.specs.declared.tree.tree.TemplateItem.{TemplateItem}
use Rattle.qs_script.specs.declared.tree.tree.StartedItem.{StartedItem}
use Rattle.qs_script.specs.declared.tree.tree.Item.{Item}
use Rattle.qs_script.specs.declared.tree.tree.Item.TheVariants.{Object, Client, Template, Started}
use Rattle.qs_program.specs.declared.program.Declared.{Declared}
use Rattle.qs_program.specs.audit.Binding.{bound_block}
use Rattle.qs_program.specs.audit.Kinds.{same_kind}
use Rattle.qs_program.specs.audit.Numbering.{Name, same_name, found_at}
use Rattle.qs_program.specs.audit.Program.{no_object}
use Rattle.qs_program.specs.Sound.{IsSoundBlock, IsSoundClient}
use Rattle.qs_program.proofs.Found.{found_within}
use Rattle.qs_check.specs.audit.fault_places.Places.{formal_kind, kind_of}
use Rattle.qs_check.specs.audit.fault_places.Variables.{variables_of}
use Rattle.qs_check.specs.audit.resolution.Resolve.{as_client, binding_of, block_shape, declared_formals, objects_of, own_client, started_of, template_called, templates_in}
use Rattle.qs_check.specs.WellFormed.{AreGiven, AreItems, IsWellFormedTemplate}
use Rattle.qs_check.proofs.binding.BoundTexts.{sound_bounds}
use Rattle.qs_check.proofs.SoundStatements.{Known, kind_at}
use Rattle.qs_check.proofs.resolution.Scopes.{names, kinds}
use Rattle.qs_check.proofs.Soundness.{AreStartsSound, sound_blocks}
use Rattle.qs_check.proofs.Starts.{one_match, given_to}
use Rattle.qs_check.proofs.TemplateTexts.{text_to, text_walked}
use Rattle.qs_check.proofs.fault_places.Inner.{all_both}
use Rattle.qs_check.proofs.resolution.TemplateSearch.{called_with}
use Rattle.qs_check.proofs.resolution.TemplateFormals.{formals_scope}

abbrev declared : Formal → Declared
declared x = record { name = x.name; kind = formal_kind x.kind }

module _ (D : List Declared) (distinct : IsDistinct same_name (names D)) where
  given_inside : (fs : List Formal) (os : List Name) → AreGiven D fs os → AllByRecursion (λ h. h < length D) (map (found_at (names D)) os)
  given_inside [] [] h = tt
  given_inside (x ∷ fs) (o ∷ os) h =
      (omega (arith, found_within (names D) o (one_match D distinct x o h.0).0, length-map D (λ (d : Declared). d.name)), given_inside fs os h.1)
  given_inside _ _ h = absurd h

  given_kinds : (fs : List Formal) (os : List Name) → AreGiven D fs os → (i : ℕ) → i < length (declared_formals fs)
      → same_kind (slice_index_or (declared_formals fs) i no_object).kind (slice_index_or D (slice_index_or (map (found_at (names D)) os) i 0) no_object).kind ≡ true
  given_kinds [] [] h i within = absurd (omega arith)
  given_kinds (x ∷ fs) (o ∷ os) h zero within =
      ap (same_kind (slice_index_or (declared_formals (x ∷ fs)) zero no_object).kind) (kind_at D (found_at (names D) o)) ∙ (one_match D distinct x o h.0).1
  given_kinds (x ∷ fs) (o ∷ os) h (suc i) within = given_kinds fs os h.1 i (omega arith)
  given_kinds _ _ h i within = absurd h

  pub sound_start : (t : TemplateItem) (c : StartedItem) → IsWellFormedTemplate t → AreGiven D t.formals c.objects → IsSoundClient D (started_of (names D) (Some t) c)
  sound_start t c well given =
      let F = declared_formals t.formals in
      let V = variables_of (as_client t) in
      let B = binding_of (names D) c in
      let u = text_to t well in
      let w = text_walked t u.0 u.1 in
      let known : Known F (names F) (kinds F) = λ o h. (h, refl) in
      let own : AllByRecursion (IsSoundBlock F) (own_client t).blocks = sound_blocks F V w.few_variables t.blocks (formals_scope F) w.last known w.walk in
      let each : length B ≡ length F =
      omega (arith, length-map c.objects (found_at (names D)), (given_to D distinct t.formals c.objects given).0, length-map t.formals (λ (x : Formal). declared x)) in
      let inside = given_inside t.formals c.objects given in
      let kinds_fit = given_kinds t.formals c.objects given in
      record {
        variables = w.few_variables;
        blocks = omega (arith, length-map (own_client t).blocks (bound_block B), length-map t.blocks (block_shape (names F) (kinds F) V), well.client.blocks);
        each = sound_bounds B F D each inside kinds_fit (own_client t).blocks own;
        start = record { few = omega (arith, w.few_formals, length-map t.formals (λ (x : Formal). declared x)); each = each; inside = inside; kinds = kinds_fit; texts = own; bound = refl };
      }

-- ---- templates that are declared before

pub called_more : (S more : List TemplateItem) (n : Name) (t : TemplateItem) → template_called S n ≡ Some t → template_called (S ++ more) n ≡ Some t
called_more [] more n t h = cc
called_more (u ∷ S) more n t h = by_test (same_name n u.name) (called_more S more n t) h
  where
    by_test : (b : Bool) → (template_called S n ≡ Some t → template_called (S ++ more) n ≡ Some t)
        → (if b then Some u else template_called S n) ≡ Some t → (if b then Some u else template_called (S ++ more) n) ≡ Some t
    by_test true later e = e
    by_test false later e = later e

-- ---- objects that are declared later change nothing

given_more : (D more : List Declared) (fs : List Formal) (os : List Name) → AreGiven D fs os → AreGiven (D ++ more) fs os
given_more D more [] [] h = tt
given_more D more (x ∷ fs) (o ∷ os) h = (
  record { kind = h.0.kind; declares = Contains-append_left D more (record { name = o; kind = h.0.kind }) h.0.declares; same = h.0.same },
  given_more D more fs os h.1,
)
given_more D more _ _ h = absurd h

-- all clients of templates are sound, where D are all objects and T all templates
module _ (D : List Declared) (T : List TemplateItem) (distinct : IsDistinct same_name (names D)) where
  pub starts_sound : (items : List Item) (E : List Declared) (S : List TemplateItem) → D ≡ E ++ objects_of items → T ≡ S ++ templates_in items → AllByRecursion IsWellFormedTemplate S → AreItems E S items → AreStartsSound D T items
  starts_sound [] E S e f all h = tt
  starts_sound (Object o ∷ rest) E S e f all (k, h) =
      let d : Declared = record { name = o.name; kind = kind_of o.kind } in
      starts_sound rest (E ++ d ∷ []) S (e ∙ sym (append_assoc E (d ∷ []) (objects_of rest))) f all h
  starts_sound (Client c ∷ rest) E S e f all (one, h) = starts_sound rest E S e f all h
  starts_sound (Template t ∷ rest) E S e f all (one, h) =
      starts_sound rest E (S ++ t ∷ []) e (f ∙ sym (append_assoc S (t ∷ []) (templates_in rest))) (all_both IsWellFormedTemplate S (t ∷ []) all (one, tt)) h
  starts_sound (Started c ∷ rest) E S e f all (one, h) =
      let called : template_called T c.template ≡ Some one.template =
      ap (λ ts. template_called ts c.template) f ∙ called_more S (templates_in rest) c.template one.template one.called in
      let P : List Declared → Type 0 = λ os. AreGiven os one.template.formals c.objects in
      let given : P D = subst P (sym e) (given_more E (objects_of rest) one.template.formals c.objects one.objects) in
      let Q : Option TemplateItem → Type 0 = λ r. IsSoundClient D (started_of (names D) r c) in (
        subst Q (sym called) (sound_start D distinct one.template c (called_with IsWellFormedTemplate S c.template one.template all one.called) given),
        starts_sound rest E S e f all h,
      )
