-- The anchor at which the first fault of a script's text stands, by its number among the anchors.
use Rattle.std.specs.Prelude.{◌≡◌, ◌≢◌, ℕ, ◌+◌, List, [], ◌∷◌, length, Option, Some, None, Result, Ok, Err}
use Rattle.qs_script.specs.declared.tree.tree.TemplateItem.{TemplateItem}
use Rattle.qs_script.specs.declared.tree.tree.Item.{Item}
use Rattle.qs_script.specs.declared.tree.tree.Item.TheVariants.{Template}
use Rattle.qs_check.specs.declared.fault_places.fault.CheckFault.TheVariants as f
use Rattle.qs_check.specs.audit.fault_places.Places.{Scope, ScopeOrFault, template, scope_or_fault, start, pass_place, formal_kinds}
use Rattle.qs_check.specs.declared.anchors.anchor.Anchor.{Anchor}
use Rattle.qs_check.specs.declared.anchors.finding.Anchored.{Anchored}
use Rattle.qs_check.specs.anchors.Anchors.{anchor_places, item_anchors, text_anchors}

abbrev pub ScopeOrAnchored : Type 0
ScopeOrAnchored = Result Scope Anchored

-- what is known after an anchor, or its fault with the anchor's number
abbrev pub at_anchor : ℕ → ScopeOrFault → ScopeOrAnchored
at_anchor n (Ok s) = Ok s
at_anchor n (Err fault) = Err (record { anchor = n; fault = fault })

abbrev pub then_on : ScopeOrAnchored → (Scope → ScopeOrAnchored) → ScopeOrAnchored
then_on (Ok s) next = next s
then_on (Err anchored) next = Err anchored

-- the first of some anchors with a fault, where the first of them has the number n; or what is known after all of them
abbrev pub scope_or_anchored : Scope → ℕ → List Anchor → ScopeOrAnchored
scope_or_anchored s n [] = Ok s
scope_or_anchored s n (m ∷ ms) =
    then_on (at_anchor n (scope_or_fault s (anchor_places m))) (λ t. scope_or_anchored t (n + 1) ms)

-- nothing is known outside of what is known inside
abbrev pub outside : Scope → ScopeOrAnchored → ScopeOrAnchored
outside s (Ok t) = Ok s
outside s (Err anchored) = Err anchored

-- a template's name, and then its formals and blocks, of which nothing outside is known
abbrev pub template_anchored : Scope → ℕ → TemplateItem → ScopeOrAnchored
template_anchored s n t =
    then_on (at_anchor n (pass_place s (template t.name (formal_kinds t.formals))))
    (λ u. outside u (scope_or_anchored start (n + 1) (text_anchors t)))

abbrev pub item_anchored : Scope → ℕ → Item → ScopeOrAnchored
item_anchored s n (Template t) = template_anchored s n t
item_anchored s n i = scope_or_anchored s n (item_anchors i)

abbrev pub items_anchored : Scope → ℕ → List Item → ScopeOrAnchored
items_anchored s n [] = Ok s
items_anchored s n (i ∷ is) = then_on (item_anchored s n i) (λ t. items_anchored t (n + length (item_anchors i)) is)

abbrev pub anchored_in : ScopeOrAnchored → Option Anchored
anchored_in (Ok s) = None
anchored_in (Err anchored) = Some anchored

-- the first fault of a script's text, and its anchor
abbrev pub first_anchored : List Item → Option Anchored
first_anchored items = anchored_in (items_anchored start 0 items)

-- what a call of the code says: the first fault with its anchor, or the scope that it leaves; out of memory says
-- nothing
abbrev pub Finds : {X : Type 0} → Result X Anchored → ScopeOrAnchored → Scope → Type 0
Finds (Ok x) m s = m ≡ Ok s
Finds (Err anchored) m s = anchored.fault ≢ f.Memory → m ≡ Err anchored
