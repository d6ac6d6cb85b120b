-- A walk stops only at one of the anchors that it goes through. By induction on the anchors, and then on the items.
use Rattle.std.proofs.Common.{◌≡◌, ℕ, ◌+◌, ◌<◌, List, [], ◌∷◌, length, ap, arith, length-append, Some, Ok, Err}
use Rattle.qs_script.specs.declared.tree.tree.Item.{Item}
use Rattle.qs_script.specs.declared.tree.tree.Item.TheVariants.{Template}
use Rattle.qs_check.specs.audit.fault_places.Places.{Scope, ScopeOrFault, scope_or_fault, start, pass_place, template, formal_kinds}
use Rattle.qs_check.specs.declared.anchors.anchor.Anchor.{Anchor}
use Rattle.qs_check.specs.declared.anchors.finding.Anchored.{Anchored}
use Rattle.qs_check.specs.anchors.Anchors.{anchor_places, text_anchors, item_anchors, script_anchors}
use Rattle.qs_check.specs.anchors.Anchored.{ScopeOrAnchored, at_anchor, then_on, scope_or_anchored, outside, item_anchored, items_anchored, anchored_in, first_anchored}

-- a walk stops below a number, if it stops
abbrev StopsBelow : ℕ → ScopeOrAnchored → Type 0
StopsBelow n (Ok s) = Unit {0}
StopsBelow n (Err anchored) = anchored.anchor < n

further : (m n : ℕ) (r : ScopeOrAnchored) → m < n + 1 → StopsBelow m r → StopsBelow n r
further m n (Ok s) h k = tt
further m n (Err anchored) h k = omega (arith, h, k)

at_one : (n e : ℕ) (r : ScopeOrFault) (f : Scope → ScopeOrAnchored) → n < e → ((t : Scope) → StopsBelow e (f t)) → StopsBelow e (then_on (at_anchor n r) f)
at_one n e (Ok t) f h k = k t
at_one n e (Err fault) f h k = h

on : (e : ℕ) (r : ScopeOrAnchored) (f : Scope → ScopeOrAnchored) → StopsBelow e r → ((t : Scope) → StopsBelow e (f t)) → StopsBelow e (then_on r f)
on e (Ok t) f h k = k t
on e (Err anchored) f h k = h

stops : (s : Scope) (n : ℕ) (ms : List Anchor) → StopsBelow (n + length ms) (scope_or_anchored s n ms)
stops s n [] = tt
stops s n (m ∷ ms) =
    at_one n (n + length (m ∷ ms)) (scope_or_fault s (anchor_places m)) (λ t. scope_or_anchored t (n + 1) ms) (omega arith)
    (λ t. further (n + 1 + length ms) (n + length (m ∷ ms)) (scope_or_anchored t (n + 1) ms) (omega arith) (stops t (n + 1) ms))

from_outside : (e : ℕ) (u : Scope) (r : ScopeOrAnchored) → StopsBelow e r → StopsBelow e (outside u r)
from_outside e u (Ok t) h = tt
from_outside e u (Err anchored) h = h

item : (s : Scope) (n : ℕ) (i : Item) → StopsBelow (n + length (item_anchors i)) (item_anchored s n i)
item s n (Template t) =
    let inner : ScopeOrAnchored = scope_or_anchored start (n + 1) (text_anchors t) in
    at_one n (n + length (item_anchors (Template t))) (pass_place s (template t.name (formal_kinds t.formals))) (λ u. outside u inner) (omega arith)
    (λ u. from_outside (n + length (item_anchors (Template t))) u inner
    (further (n + 1 + length (text_anchors t)) (n + length (item_anchors (Template t))) inner (omega arith) (stops start (n + 1) (text_anchors t))))
item s n i = stops s n (item_anchors i)

items : (s : Scope) (n : ℕ) (is : List Item) → StopsBelow (n + length (script_anchors is)) (items_anchored s n is)
items s n [] = tt
items s n (i ∷ is) =
    let all : ℕ = n + length (script_anchors (i ∷ is)) in
    let here : ℕ = n + length (item_anchors i) in
    let sum : here + length (script_anchors is) ≡ all = omega (arith, length-append (item_anchors i) (script_anchors is)) in
    on all (item_anchored s n i) (λ t. items_anchored t here is) (further here all (item_anchored s n i) (omega arith) (item s n i))
    (λ t. further (here + length (script_anchors is)) all (items_anchored t here is) (omega arith) (items t here is))

its_anchor : (e : ℕ) (r : ScopeOrAnchored) (anchored : Anchored) → StopsBelow e r → anchored_in r ≡ Some anchored → anchored.anchor < e
its_anchor e (Ok s) anchored h k = cc
its_anchor e (Err p) anchored h k = let same : p ≡ anchored = cc in omega (arith, h, ap (λ x. x.anchor) same)

pub first_is_an_anchor : (is : List Item) (anchored : Anchored) → first_anchored is ≡ Some anchored → anchored.anchor < length (script_anchors is)
first_is_an_anchor is anchored h =
    let below : anchored.anchor < 0 + length (script_anchors is) = its_anchor (0 + length (script_anchors is)) (items_anchored start 0 is) anchored (items start 0 is) h in
    omega (arith, below)
