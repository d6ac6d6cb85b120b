-- A chunk is turned round once as its requests are copied: what was copied lies behind what is left, and once all are
-- copied it lies as it did. `requests_of` needs this, since a chunk gives its requests only one after another.
use Rattle.std.proofs.Common.{◌≡◌, ◌<◌, List, [], ◌∷◌, ◌++◌, length, ap, sym, ◌∙◌, append_assoc, arith}
use Rattle.qs_played.proofs.Names.{append-nil, length-append, Result, Ok, Err, IfOk, IsOk, Request}

abbrev pub IsTurned : (whole now copied left : List Request) → Type 0
IsTurned whole now copied left = (now ≡ left ++ copied) × (whole ≡ copied ++ left)

pub none_copied : (whole copied : List Request) → copied ≡ [] → IsTurned whole whole copied whole
none_copied whole copied none = (sym (ap (λ xs. whole ++ xs) none ∙ append-nil whole), ap (λ xs. xs ++ whole) (sym none))

-- one request more was copied, and went behind
pub one_more : (whole now copied left rest : List Request) (item copy : Request) → IsTurned whole now copied left → length copied < length whole → now ≡ item ∷ rest → copy ≡ item
    → (later : List Request) × IsTurned whole (rest ++ item ∷ []) (copied ++ copy ∷ []) later
one_more whole now copied [] rest item copy is few first same = absurd (omega (arith, few, ap length is.1, length-append copied []))
one_more whole now copied (y ∷ left) rest item copy is few first same =
    let e : y ∷ (left ++ copied) ≡ item ∷ rest = sym is.0 ∙ first in
    let head : y ≡ item = cc in
    let tail : left ++ copied ≡ rest = cc in (
      left,
      (
        ap (λ xs. xs ++ item ∷ []) (sym tail) ∙ append_assoc left copied (item ∷ []) ∙ ap (λ x. left ++ (copied ++ x ∷ [])) (sym same),
        is.1 ∙ ap (λ x. copied ++ x ∷ left) (head ∙ sym same) ∙ sym (append_assoc copied (copy ∷ []) left),
      ),
    )

-- how many lie there stays
pub as_many : (whole now copied left : List Request) → IsTurned whole now copied left → length now ≡ length whole
as_many whole now copied left is = omega (arith, ap length is.0, ap length is.1, length-append left copied, length-append copied left)

-- a call that succeeds
pub once_ok : {A B : Type 0} {Q : Type 0} (o : Result A B) → IsOk o → IfOk o (λ _. Q) → Q
once_ok (Ok x) is holds = holds
once_ok (Err e) is holds = cc
