-- The reader stops at the place of the fault of form: what it made of the tokens before says that a script goes on
-- there, and what it makes of one more that none does. The contract of `read` stands on it, and the law that there is
-- one such place.
use Rattle.std.proofs.Common.{◌≡◌, ◌↔◌, IsTrue, nat_eq, ℕ, suc, ◌-◌, ◌<◌, ◌≤◌, List, [], ◌∷◌, ◌++◌, length, take, drop, refl, ap, sym, ◌∙◌, arith, append-nil, append_assoc, Ok, Err, subst, length-append, length-drop, take-append-drop, take-take}
use Rattle.std.proofs.Math.Seq.{take-length}
use Rattle.qs_script.specs.Types.{Token, Item}
use Rattle.qs_script.specs.audit.grammar.Grammar.{IsScript}
use Rattle.qs_script.specs.grammar.Reading.{Read, run, items_loop}
use Rattle.qs_script.specs.grammar.FormPlaces.{BeginsScript, IsFormPlace}
use Rattle.qs_script.proofs.grammar.Prefixes.{Status, refused, whole, begun, left_of}
use Rattle.qs_script.proofs.grammar.Readers.{IsEmpty, items_status, items_short}
use Rattle.qs_script.proofs.grammar.Sound.{items_sound}
use Rattle.qs_script.proofs.grammar.Readings.{both_err, is_no_script, not_both}

-- a script begins with the tokens before those that are left
begins : (us zs : List Token) (left : ℕ) → length zs ≡ left → run items_loop (us ++ zs) ≡ Err left → Status IsEmpty (λ ws. run items_loop (us ++ ws)) → BeginsScript us
begins us zs left e p (refused y ys h) =
    absurd (omega (arith, e, both_err (run items_loop (us ++ zs)) left (length (y ∷ ys ++ zs)) p (h zs), length-append ys zs))
begins us zs left e p (whole items ys h) = absurd (not_both (run items_loop (us ++ zs)) (items, ys ++ zs) left (h zs) p)
begins us zs left e p (begun short rest items h) =
    (rest, items, items_sound (us ++ rest) (items, []) (ap (λ ws. run items_loop (us ++ ws)) (sym (append-nil rest)) ∙ h [] refl))

-- no script begins with so many tokens that fewer follow than are left
ends : (us zs : List Token) (left : ℕ) → length zs < left → run items_loop (us ++ zs) ≡ Err left → Status IsEmpty (λ ws. run items_loop (us ++ ws)) → BeginsScript us → ⊥
ends us zs left e p (refused y ys h) (rest, script, s) = is_no_script (us ++ rest) (length (y ∷ ys ++ rest)) (h rest) script s
ends us zs left e p (whole items ys h) b = not_both (run items_loop (us ++ zs)) (items, ys ++ zs) left (h zs) p
ends us zs left e p (begun short word items h) b =
    let less : left_of {A = List Item} (Err left) ≤ length zs = subst (λ r. left_of r ≤ length zs) p (short zs) in omega (arith, e, less)

pub form_place : (ts : List Token) (left : ℕ) → run items_loop ts ≡ Err left → IsFormPlace ts (length ts - left)
form_place ts left p =
    let place = length ts - left in
    let less : left ≤ length ts = subst (λ r. left_of r ≤ length ts) p (items_short ts) in
    record {
      within = omega (arith, less);
      goes_on = begins (take place ts) (drop place ts) left (omega (arith, less, length-drop place ts)) (ap (run items_loop) (take-append-drop place ts) ∙ p) (items_status (take place ts));
      stops = λ before.
          ends (take (suc place) ts) (drop (suc place) ts) left (omega (arith, less, before, length-drop (suc place) ts)) (ap (run items_loop) (take-append-drop (suc place) ts) ∙ p) (items_status (take (suc place) ts));
    }

-- a script that begins with some tokens begins with their front
front_begins : (n : ℕ) (ts : List Token) → BeginsScript ts → BeginsScript (take n ts)
front_begins n ts (rest, script, s) = (
  drop n ts ++ rest,
  script,
  subst (IsScript script) (ap (λ us. us ++ rest) (sym (take-append-drop n ts)) ∙ append_assoc (take n ts) (drop n ts) rest) s,
)

pub script_begins : (ts : List Token) (script : List Item) → IsScript script ts → BeginsScript ts
script_begins ts script h = ([], script, subst (IsScript script) (sym (append-nil ts)) h)

none_begins : (ts : List Token) (place : ℕ) → IsFormPlace ts place → place < length ts → BeginsScript ts → ⊥
none_begins ts place h less b = h.stops less (front_begins (suc place) ts b)

-- a script begins with all of the tokens where the place of their fault is the end, and only there
pub begins_where : (ts : List Token) (place : ℕ) → IsFormPlace ts place → IsTrue (nat_eq place (length ts)) ↔ BeginsScript ts
begins_where ts place h = (λ e. at_end (grind (arith, e)), λ b. grind (arith, h.within, λ (less : place < length ts). none_begins ts place h less b)) where
  at_end : place ≡ length ts → BeginsScript ts
  at_end e = subst BeginsScript (ap (λ n. take n ts) e ∙ take-length ts) h.goes_on

-- tokens that no script has
some_place_of : (ts : List Token) (r : Read (List Item)) → run items_loop ts ≡ r → ((s : List Item) → IsScript s ts → ⊥) → (place : ℕ) × IsFormPlace ts place
some_place_of ts (Ok x) p no_script = absurd (no_script x.0 (items_sound ts x p))
some_place_of ts (Err left) p no_script = (length ts - left, form_place ts left p)

pub some_place : (ts : List Token) → ((s : List Item) → IsScript s ts → ⊥) → (place : ℕ) × IsFormPlace ts place
some_place ts = some_place_of ts (run items_loop ts) refl

-- no place stands before another
not_before : (ts : List Token) (place other : ℕ) → IsFormPlace ts place → IsFormPlace ts other → place < other → ⊥
not_before ts place other h k less =
    h.stops (omega (arith, less, k.within)) (subst BeginsScript (take-take (suc place) other ts (omega (arith, less))) (front_begins (suc place) (take other ts) k.goes_on))

pub one_place : (ts : List Token) (place other : ℕ) → IsFormPlace ts place → IsFormPlace ts other → place ≡ other
one_place ts place other h k = omega (arith, not_before ts place other h k, not_before ts other place k h)
