-- What is read is a script, tokens of which nothing is read are none, and so tokens have at most one tree. It joins the
-- two directions that are proved of the grammar: whatever is read is a script, and every script is read. The contracts
-- of all that reads stand on it.
use Rattle.std.proofs.Common.{◌≡◌, ℕ, List, [], ap, Result, Ok, Err}
use Rattle.qs_script.specs.Types.{Token, Item}
use Rattle.qs_script.specs.grammar.Reading.{run, items_loop}
use Rattle.qs_script.specs.audit.grammar.Grammar.{IsScript}
use Rattle.qs_script.proofs.grammar.Sound.{items_sound}
use Rattle.qs_script.proofs.grammar.Complete.{items_complete}

pub both_ok : {A E : Type 0} (r : Result A E) (x y : A) → r ≡ Ok x → r ≡ Ok y → x ≡ y
both_ok r x y p q = cc

pub both_err : {A E : Type 0} (r : Result A E) (x y : E) → r ≡ Err x → r ≡ Err y → x ≡ y
both_err r x y p q = cc

pub not_both : {A E : Type 0} (r : Result A E) (x : A) (e : E) → r ≡ Ok x → r ≡ Err e → ⊥
not_both r x e p q = cc

pub is_script : (ts : List Token) (script : List Item) → run items_loop ts ≡ Ok (script, []) → IsScript script ts
is_script ts script p = items_sound ts (script, []) p

pub is_no_script : (ts : List Token) (left : ℕ) → run items_loop ts ≡ Err left → (script : List Item) → IsScript script ts → ⊥
is_no_script ts left p script h = not_both (run items_loop ts) (script, []) left (items_complete script ts h) p

-- a list of tokens has at most one tree
pub one_tree : (is js : List Item) (ts : List Token) → IsScript is ts → IsScript js ts → is ≡ js
one_tree is js ts g h = ap (λ p. p.0) (both_ok (run items_loop ts) (is, []) (js, []) (items_complete is ts g) (items_complete js ts h))
