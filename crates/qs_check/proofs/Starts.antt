-- A client of a template is walked without a fault exactly where its template is declared before it, and each object
-- that is given is declared and of its formal's kind. The proof that well-formed scripts are those without a fault
-- needs both directions. Both go by induction on the formals, beside the objects that are given for them.
use Rattle.std.proofs.Common.{◌≡◌, ℕ, suc, ◌<◌, Bool, true, false, ◌||◌, List, [], ◌∷◌, ◌++◌, length, get_or, slice_index_or, Option, Some, None, refl, ap, sym, ◌∙◌, subst, arith, pos, if◌then◌else◌}
use Rattle.std.proofs.lemmas.List.{length-map}
use Rattle.std.specs.List.{IsDistinct, position_or_len}
use Rattle.qs_objects.specs.declared.object.Kind.{Kind}
use Rattle.qs_objects.specs.declared.object.Kind.TheVariants.{Account}
use Rattle.qs_script.specs.declared.tree.tree.Formal.{Formal}
use Rattle.qs_script.specs.declared.tree.tree.TemplateItem.{TemplateItem}
use Rattle.qs_script.specs.declared.tree.tree.StartedItem.{StartedItem}
use Rattle.qs_program.specs.declared.program.Declared.{Declared}
use Rattle.qs_program.specs.audit.Kinds.{same_kind}
use Rattle.qs_program.specs.audit.Numbering.{Name, same_name, is_among, found_at}
use Rattle.qs_program.proofs.Found.{found_is, found_within, name_at}
use Rattle.qs_check.specs.audit.fault_places.Places.{Scope, TextPlace, scope_or_fault, given, starts, formal_kind, formal_kinds, formals_at, given_places, kind_in}
use Rattle.qs_check.specs.audit.resolution.Resolve.{template_called}
use Rattle.qs_check.specs.WellFormed.{AreGiven, IsGiven, IsWellFormedStart}
use Rattle.qs_check.proofs.fault_places.Steps.{onward}
use Rattle.qs_check.proofs.Scripts.{AllMatch}
use Rattle.qs_check.proofs.resolution.Scopes.{names, kinds, scope, template_names, template_formals}
use Rattle.qs_check.proofs.TextRequests.{among_at, at_number, found_only, place_here, place_later}

-- ---- the template of a name

-- where a name is among the templates': the first of that name, and its formals' kinds
abbrev Called : List TemplateItem → Name → Type 0
Called T n =
    (t : TemplateItem) × (template_called T n ≡ Some t) × (slice_index_or (template_formals T) (position_or_len (same_name n) (template_names T)) [] ≡ formal_kinds t.formals)

called_by : (u : TemplateItem) (T : List TemplateItem) (n : Name) (b : Bool) → same_name n u.name ≡ b → (b || is_among (template_names T) n) ≡ true → (is_among (template_names T) n ≡ true → Called T n) → Called (u ∷ T) n
called_by u T n true e h more = (
  u,
  ap (λ (b : Bool). if b then Some u else template_called T n) e,
  ap (λ i. slice_index_or (template_formals (u ∷ T)) i []) (place_here (same_name n u.name) (position_or_len (same_name n) (template_names T)) e),
)
called_by u T n false e h more =
    let w = more h in (
      w.0,
      ap (λ (b : Bool). if b then Some u else template_called T n) e ∙ w.1,
      ap (λ i. slice_index_or (template_formals (u ∷ T)) i []) (place_later (same_name n u.name) (position_or_len (same_name n) (template_names T)) (position_or_len (same_name n) (template_names T)) e refl) ∙ w.2,
    )

called_at : (T : List TemplateItem) (n : Name) → is_among (template_names T) n ≡ true → Called T n
called_at [] n h = cc
called_at (u ∷ T) n h = called_by u T n (same_name n u.name) refl h (called_at T n)

pub called : (T : List TemplateItem) (n : Name) → is_among (template_names T) n ≡ true → (t : TemplateItem) × (template_called T n ≡ Some t) × (formals_at (template_names T) (template_formals T) n ≡ formal_kinds t.formals)
called T n h =
    let w = called_at T n h in
    (w.0, w.1, ap (λ i. slice_index_or (template_formals T) i []) (found_is (same_name n) (template_names T) h) ∙ w.2)

pub called_among : (T : List TemplateItem) (n : Name) (t : TemplateItem) → template_called T n ≡ Some t → is_among (template_names T) n ≡ true
called_among [] n t h = cc
called_among (u ∷ T) n t h = by_test (same_name n u.name) (called_among T n t) h
  where
    by_test : (b : Bool) → (template_called T n ≡ Some t → is_among (template_names T) n ≡ true) → (if b then Some u else template_called T n) ≡ Some t → (b || is_among (template_names T) n) ≡ true
    by_test true later e = refl
    by_test false later e = later e

-- ---- objects for formals

module _ (D : List Declared) where
  -- from the second formal on
  shifted : (k : Kind) (ks : List Kind) (i : ℕ) (os : List Name) → AllMatch (names D) (kinds D) (k ∷ ks) (suc i) os → AllMatch (names D) (kinds D) ks i os
  shifted k ks i [] h = tt
  shifted k ks i (o ∷ os) h = (h.0, shifted k ks (suc i) os h.1)

  raised : (k : Kind) (ks : List Kind) (i : ℕ) (os : List Name) → AllMatch (names D) (kinds D) ks i os → AllMatch (names D) (kinds D) (k ∷ ks) (suc i) os
  raised k ks i [] h = tt
  raised k ks i (o ∷ os) h = (h.0, raised k ks (suc i) os h.1)

  one_given : (x : Formal) (o : Name) → is_among (names D) o ≡ true → same_kind (formal_kind x.kind) (kind_in (kinds D) (found_at (names D) o)) ≡ true → IsGiven D x o
  one_given x o known same =
      let k = found_at (names D) o in
      let kind = kind_in (kinds D) k in
      let within : k < length D = omega (arith, found_within (names D) o known, length-map D (λ (d : Declared). d.name)) in
      let here : Declared = record { name = o; kind = kind } in
      record {
        kind = kind;
        declares = (k, within, at_number D k here within ∙ (λ i. record { name = sym (name_at (names D) o known) i; kind = kind }));
        same = same;
      }

  given_from : (fs : List Formal) (os : List Name) → length fs ≡ length os → AllMatch (names D) (kinds D) (formal_kinds fs) 0 os → AreGiven D fs os
  given_from [] [] e h = tt
  given_from (x ∷ fs) (o ∷ os) e h =
      (one_given x o h.0.0 h.0.1, given_from fs os (omega (arith, e)) (shifted (formal_kind x.kind) (formal_kinds fs) 0 os h.1))
  given_from _ _ e h = absurd (omega (arith, e))

  module _ (distinct : IsDistinct same_name (names D)) where
    pub one_match : (x : Formal) (o : Name) → IsGiven D x o → (is_among (names D) o ≡ true) × (same_kind (formal_kind x.kind) (kind_in (kinds D) (found_at (names D) o)) ≡ true)
    one_match x o h =
        let k = h.declares.0 in
        let here : Declared = record { name = o; kind = h.kind } in
        let it = sym (at_number D k here h.declares.1) ∙ h.declares.2 in
        let name_is : get_or (names D) k [] ≡ o = ap (λ (d : Declared). d.name) it in
        let kind_is : slice_index_or (kinds D) k (Account (pos 0)) ≡ h.kind = ap (λ (d : Declared). d.kind) it in
        let within : k < length (names D) = omega (arith, h.declares.1, length-map D (λ (d : Declared). d.name)) in
        let number_is : found_at (names D) o ≡ k = ap (found_at (names D)) (sym name_is) ∙ found_only (names D) k distinct within in (
          ap (is_among (names D)) (sym name_is) ∙ among_at (names D) k within,
          ap (λ i. same_kind (formal_kind x.kind) (kind_in (kinds D) i)) number_is ∙ ap (same_kind (formal_kind x.kind)) kind_is ∙ h.same,
        )

    pub given_to : (fs : List Formal) (os : List Name) → AreGiven D fs os → (length fs ≡ length os) × AllMatch (names D) (kinds D) (formal_kinds fs) 0 os
    given_to [] [] h = (refl, tt)
    given_to (x ∷ fs) (o ∷ os) h =
        let more = given_to fs os h.1 in
        (ap suc more.0, (one_match x o h.0, raised (formal_kind x.kind) (formal_kinds fs) 0 os more.1))
    given_to _ _ h = absurd h

-- ---- the places of a client of a template

length-kinds : (fs : List Formal) → length (formal_kinds fs) ≡ length fs
length-kinds fs = length-map fs (λ (x : Formal). formal_kind x.kind)

module _ (D : List Declared) (T : List TemplateItem) where
  pub started_from : (c : StartedItem) → is_among (template_names T) c.template ≡ true → length (formals_at (template_names T) (template_formals T) c.template) ≡ length c.objects → AllMatch (names D) (kinds D) (formals_at (template_names T) (template_formals T) c.template) 0 c.objects → IsWellFormedStart T D c
  started_from c known count match =
      let w = called T c.template known in
      let P : List Kind → Type 0 = λ ks. AllMatch (names D) (kinds D) ks 0 c.objects in
      record {
        template = w.0;
        called = w.1;
        objects = given_from D w.0.formals c.objects (sym (length-kinds w.0.formals) ∙ sym (ap length w.2) ∙ count) (subst P w.2 match);
      }

  module _ (C : List Name) (distinct : IsDistinct same_name (names D)) where
    abbrev here : Scope
    here = scope D T C 0 [] []

    given_met : (n : Name) (i : ℕ) (os : List Name) (ps : List TextPlace) → AllMatch (names D) (kinds D) (formals_at (template_names T) (template_formals T) n) i os → scope_or_fault here (given_places n i os ++ ps) ≡ scope_or_fault here ps
    given_met n i [] ps h = refl
    given_met n i (o ∷ os) ps h =
        onward here (given n i o) (given_places n (suc i) os ++ ps) (scope_or_fault here ps) h.0 (given_met n (suc i) os ps h.1)

    same_template : (t u : TemplateItem) (r : Option TemplateItem) → r ≡ Some t → r ≡ Some u → t ≡ u
    same_template t u None p q = cc
    same_template t u (Some v) p q = cc

    pub started_met : (c : StartedItem) → IsWellFormedStart T D c → (ps : List TextPlace) → scope_or_fault (scope D T C 0 [] []) (starts c.template (length c.objects) ∷ (given_places c.template 0 c.objects ++ ps)) ≡ scope_or_fault (scope D T C 0 [] []) ps
    started_met c well ps =
        let n = c.template in
        let known = called_among T n well.template well.called in
        let w = called T n known in
        let same = same_template w.0 well.template (template_called T n) w.1 well.called in
        let formals : formals_at (template_names T) (template_formals T) n ≡ formal_kinds well.template.formals = w.2 ∙ ap (λ (t : TemplateItem). formal_kinds t.formals) same in
        let g = given_to D distinct well.template.formals c.objects well.objects in
        let count : length (formals_at (template_names T) (template_formals T) n) ≡ length c.objects = ap length formals ∙ length-kinds well.template.formals ∙ g.0 in
        let P : List Kind → Type 0 = λ ks. AllMatch (names D) (kinds D) ks 0 c.objects in
        onward here (starts n (length c.objects)) (given_places n 0 c.objects ++ ps) (scope_or_fault here ps) (known, count)
        (given_met n 0 c.objects ps (subst P (sym formals) g.1))
