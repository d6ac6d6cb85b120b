-- The loop that looks for a template of a name over the items of a script finds the first one. The proof of the
-- function that does this stands on it, and so does that a template which is found has the form of a script's.
use Rattle.std.proofs.Common.{◌≡◌, ◌≢◌, ℕ, suc, ◌+◌, ◌<◌, ◌≤◌, Bool, true, false, List, [], ◌∷◌, length, map, get_or, drop, Some, refl, ap, sym, ◌∙◌, subst, add-one, arith, if◌then◌else◌, drop-cons}
use Rattle.std.specs.List.{AllByRecursion}
use Rattle.qs_objects.specs.declared.object.Kind.{Kind}
use Rattle.qs_script.specs.tree.Form.{HasForm, IsFormed}
use Rattle.qs_script.specs.audit.tree.Limits.{most_levels}
use Rattle.qs_script.specs.declared.tree.tree.Block.{Block}
use Rattle.qs_script.specs.declared.tree.tree.TemplateItem.{TemplateItem}
use Rattle.qs_script.specs.declared.tree.tree.Item.{Item}
use Rattle.qs_script.specs.declared.tree.tree.Item.TheVariants.{Template}
use Rattle.qs_program.specs.audit.Numbering.{Name, same_name}
use Rattle.qs_program.specs.audit.Program.{BlockShape}
use Rattle.qs_program.specs.Sound.{levels_of}
use Rattle.qs_check.specs.audit.resolution.Resolve.{block_shape, template_called, templates_in}
use Rattle.qs_check.proofs.resolution.Resolving.{levels_same}

module _ (xs : List Item) (i : ℕ) (item : Item) (within : i < length xs) (item_is : item ≡ get_or xs i item) (n : Name)
    (so_far : template_called (templates_in xs) n ≡ template_called (templates_in (drop i xs)) n) (t : TemplateItem) (here : item ≡ Template t) where
  left : template_called (templates_in xs) n ≡ (if same_name n t.name then Some t else template_called (templates_in (drop (i + 1) xs)) n)
  left = so_far ∙ next
    where
      next : template_called (templates_in (drop i xs)) n ≡ (if same_name n t.name then Some t else template_called (templates_in (drop (i + 1) xs)) n)
      next =
          rw (drop-cons xs i item within, add-one) (ap (λ x. template_called (templates_in (x ∷ drop (suc i) xs)) n) (sym item_is ∙ here))

  pub found_here : same_name n t.name ≡ true → Some t ≡ template_called (templates_in xs) n
  found_here h = sym (left ∙ ap (λ (b : Bool). if b then Some t else template_called (templates_in (drop (i + 1) xs)) n) h)

  pub not_here : same_name n t.name ≡ false → template_called (templates_in xs) n ≡ template_called (templates_in (drop (i + 1) xs)) n
  not_here h = left ∙ ap (λ (b : Bool). if b then Some t else template_called (templates_in (drop (i + 1) xs)) n) h

-- an item that is no template is passed
skipped : (item : Item) (rest : List Item) (n : Name) → ((t : TemplateItem) → item ≢ Template t) → template_called (templates_in (item ∷ rest)) n ≡ template_called (templates_in rest) n
skipped (Template t) rest n other = absurd (other t refl)
skipped _ rest n other = refl

pub other_passed : (xs : List Item) (i : ℕ) (item : Item) → i < length xs → item ≡ get_or xs i item → (n : Name) → template_called (templates_in xs) n ≡ template_called (templates_in (drop i xs)) n → ((t : TemplateItem) → item ≢ Template t) → template_called (templates_in xs) n ≡ template_called (templates_in (drop (i + 1) xs)) n
other_passed xs i item within item_is n so_far other = so_far ∙ next
  where
    next : template_called (templates_in (drop i xs)) n ≡ template_called (templates_in (drop (i + 1) xs)) n
    next =
        rw (drop-cons xs i item within, add-one)
        (ap (λ x. template_called (templates_in (x ∷ drop (suc i) xs)) n) (sym item_is) ∙ skipped item (drop (suc i) xs) n other)

-- what holds of each template holds of the one that is called
pub called_with : (P : TemplateItem → Type 0) (ts : List TemplateItem) (n : Name) (t : TemplateItem) → AllByRecursion P ts → template_called ts n ≡ Some t → P t
called_with P [] n t all h = cc
called_with P (u ∷ ts) n t all h = by_test (same_name n u.name) (called_with P ts n t all.1) h
  where
    by_test : (b : Bool) → (template_called ts n ≡ Some t → P t) → (if b then Some u else template_called ts n) ≡ Some t → P t
    by_test true later e = let same : u ≡ t = cc in subst P same all.0
    by_test false later e = later e

abbrev pub IsFormedTemplate : TemplateItem → Type 0
IsFormedTemplate t = AllByRecursion IsFormed t.blocks

pub all_formed : (items : List Item) → HasForm items → AllByRecursion IsFormedTemplate (templates_in items)
all_formed [] form = tt
all_formed (Template t ∷ rest) form = (form.0, all_formed rest form.1)
all_formed (_ ∷ rest) form = all_formed rest form.1

-- blocks by number are nested as the text's
pub formed_levels : (os : List Name) (ks : List Kind) (vs : List Name) (bs : List Block) → AllByRecursion IsFormed bs → AllByRecursion (λ (b : BlockShape). levels_of b.body ≤ most_levels) (map (block_shape os ks vs) bs)
formed_levels os ks vs [] h = tt
formed_levels os ks vs (b ∷ bs) h = (omega (arith, levels_same os ks vs b.body, h.0.shallow), formed_levels os ks vs bs h.1)
