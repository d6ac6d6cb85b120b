-- The places of a block leave the objects and the clients as they are and add one block, and each place keeps what is
-- known within the limits. The proofs that a script with no fault is well formed and sound use this to know the scope
-- after each client. It goes by induction on the places, and then on a client's blocks.
use Rattle.std.proofs.Common.{◌≡◌, ℕ, suc, ◌+◌, ◌<◌, ◌≤◌, Bool, true, false, List, [], ◌∷◌, ◌++◌, length, refl, ap, sym, ◌∙◌, arith, length-append, Ok, if◌then◌else◌}
use Rattle.std.specs.List.{AllByRecursion}
use Rattle.qs_script.specs.declared.tree.tree.Block.{Block}
use Rattle.qs_program.specs.audit.Numbering.{Name, is_among}
use Rattle.qs_program.specs.audit.Limits.{most_blocks, most_clients, most_objects, most_variables}
use Rattle.qs_check.specs.audit.fault_places.Places.{Scope, TextPlace, object, client, separate, listed, variable, template, scope_or_fault, places, listed_places, block_places, blocks_places, scope_of_block, start, most_templates}
use Rattle.qs_check.proofs.fault_places.Steps.{next_scope, Tells, split, ok_same}
use Rattle.qs_check.proofs.fault_places.Inner.{Inner, kept_by_one, parted, inner_body}

-- all counts are in their limits
pub record InLimits (s : Scope) : Type 0 where
  pub objects : length s.objects ≤ most_objects
  pub clients : length s.clients ≤ most_clients
  pub templates : length s.templates ≤ most_templates
  pub blocks : s.blocks ≤ most_blocks
  pub variables : length s.variables ≤ most_variables

pub none_yet : InLimits start
none_yet = record { objects = omega arith; clients = omega arith; templates = omega arith; blocks = omega arith; variables = omega arith }

few_named : (names : List Name) (x : Name) (b : Bool) → (b ≡ false → length names < most_variables) → length names ≤ most_variables → length (if b then names else names ++ x ∷ []) ≤ most_variables
few_named names x true h l = l
few_named names x false h l = rw length-append (omega (arith, h refl))

limits_by_one : (s : Scope) (p : TextPlace) → Tells s p → InLimits s → InLimits (next_scope s p)
limits_by_one s (object n k) h l =
    record { objects = rw length-append (omega (arith, h.1)); clients = l.clients; templates = l.templates; blocks = l.blocks; variables = l.variables }
limits_by_one s (client n) h l =
    record { objects = l.objects; clients = rw length-append (omega (arith, h.1)); templates = l.templates; blocks = omega arith; variables = omega arith }
limits_by_one s (template n ks) h l =
    record { objects = l.objects; clients = l.clients; templates = rw length-append (omega (arith, h.1)); blocks = l.blocks; variables = l.variables }
limits_by_one s separate h l =
    record { objects = l.objects; clients = l.clients; templates = l.templates; blocks = omega (arith, h); variables = l.variables }
limits_by_one s (variable x) h l =
    record { objects = l.objects; clients = l.clients; templates = l.templates; blocks = l.blocks; variables = few_named s.variables x (is_among s.variables x) h l.variables }
limits_by_one s (listed o) h l = record { objects = l.objects; clients = l.clients; templates = l.templates; blocks = l.blocks; variables = l.variables }
limits_by_one s _ h l = l

pub limits_met : (s t : Scope) (ps : List TextPlace) → scope_or_fault s ps ≡ Ok t → InLimits s → InLimits t
limits_met s t [] h l = rw (ok_same s t h) l
limits_met s t (p ∷ ps) h l = let w = split s t p ps h in limits_met (next_scope s p) t ps w.1 (limits_by_one s p w.0 l)

-- the variables and the block's list are as in another scope
abbrev pub in_block : Scope → Scope → Scope
in_block s t = record s { variables = t.variables; reserved = t.reserved }

-- places that change nothing else
abbrev pub InBlock : List TextPlace → Type 0
InBlock ps = AllByRecursion (λ p. (s : Scope) → next_scope s p ≡ in_block s (next_scope s p)) ps

from_inner : (ps : List TextPlace) → Inner ps → InBlock ps
from_inner [] i = tt
from_inner (p ∷ ps) i = (λ s. kept_by_one s p i.0 ∙ ap (in_block s) (sym (kept_by_one s p i.0)), from_inner ps i.1)

after_list : (names : List Name) (ps : List TextPlace) → InBlock ps → InBlock (listed_places names ++ ps)
after_list [] ps i = i
after_list (n ∷ names) ps i = (λ s. refl, after_list names ps i)

pub stays : (s t : Scope) (ps : List TextPlace) → InBlock ps → scope_or_fault s ps ≡ Ok t → t ≡ in_block s t
stays s t [] i h = let e = ok_same s t h in e ∙ ap (in_block s) (sym e)
stays s t (p ∷ ps) i h = stays (next_scope s p) t ps i.1 (split s t p ps h).1 ∙ ap (λ u. in_block u t) (i.0 s)

-- after a block: one more block, and all else as before
pub block_stays : (s t : Scope) (b : Block) → scope_or_fault s (block_places b) ≡ Ok t → t ≡ in_block (scope_of_block s) t
block_stays s t b h =
    stays (scope_of_block s) t (listed_places b.reserved ++ places false b.body)
    (after_list b.reserved (places false b.body) (from_inner (places false b.body) (inner_body false b.body)))
    (split s t separate (listed_places b.reserved ++ places false b.body) h).1

-- after so many blocks of a client
abbrev pub after_blocks : Scope → ℕ → Scope → Scope
after_blocks s n t = record s { blocks = s.blocks + n; variables = t.variables; reserved = t.reserved }

pub blocks_stay : (s t : Scope) (bs : List Block) → scope_or_fault s (blocks_places bs) ≡ Ok t → t ≡ after_blocks s (length bs) t
blocks_stay s t [] h =
    let e = ok_same s t h in
    let none : s.blocks ≡ s.blocks + 0 = omega arith in
    e ∙ ap (in_block s) (sym e) ∙ (λ i. record s { blocks = none i; variables = t.variables; reserved = t.reserved })
blocks_stay s t (b ∷ bs) h =
    let w = parted s t (block_places b) (blocks_places bs) h in
    let count : s.blocks + 1 + length bs ≡ s.blocks + suc (length bs) = omega arith in
    blocks_stay w.0 t bs w.2 ∙ ap (λ u. after_blocks u (length bs) t) (block_stays s w.0 b w.1)
    ∙ (λ i. record s { blocks = count i; variables = t.variables; reserved = t.reserved })
