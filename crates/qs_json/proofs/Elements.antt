-- After one more element of an array, the text has the elements up to there; and the elements at all places of a list
-- are the list's texts, joined by commas. Every loop that writes an array stands on it.
use Rattle.std.proofs.Common.{◌≡◌, ℕ, ◌+◌, List, ◌++◌, codes, length, get_or, ap, ◌∙◌}
use Rattle.std.specs.List.{join_by}
use Rattle.qs_text.specs.audit.Texts.{texts_up_to}
use Rattle.qs_text.specs.Texts.{Puts}
use Rattle.qs_json.specs.audit.Pieces.{comma_at, element}
use Rattle.qs_text.proofs.Joined.{all_parted}
use Rattle.qs_text.proofs.Parts.{one_text_more, then}

-- one element more, after its comma
pub one_element_more : (text : ℕ → List ℕ) (n : ℕ) {first before comma after : List ℕ} → Puts (texts_up_to n (element text)) first before
    → Puts (comma_at n) before comma → Puts (text n) comma after → Puts (texts_up_to (n + 1) (element text)) first after
one_element_more text n before comma last = one_text_more (element text) n before (then comma last)

-- where all places are done, the list is there
pub all_elements : {X : Type 0} (text : X → List ℕ) (d : X) (xs : List X) (n : ℕ) {first after : List ℕ} → n ≡ length xs
    → Puts (texts_up_to n (element (λ i. text (get_or xs i d)))) first after → Puts (join_by text (codes ",") xs) first after
all_elements text d xs n {first} all puts =
    record { is = puts.is ∙ ap (λ m. first ++ texts_up_to m (element (λ i. text (get_or xs i d)))) all ∙ ap (λ l. first ++ l) (all_parted (codes ",") text d xs) }
