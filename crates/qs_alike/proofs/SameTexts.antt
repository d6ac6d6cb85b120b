-- The first client with the text of one is the first with the text of each that has the same, so that these are of one
-- class.
use Rattle.std.proofs.Common.{◌≡◌, ◌<◌, ℕ, sym, ◌∙◌, arith}
use Rattle.qs_alike.proofs.Common.{ProgramShape}
use Rattle.qs_alike.specs.Changes.{HaveSameText}
use Rattle.qs_alike.specs.Texts.{IsFirstAlike}

same_then : (p : ProgramShape) (b c d : ℕ) → HaveSameText p b c → HaveSameText p c d → HaveSameText p b d
same_then p b c d one other = record { blocks = one.blocks ∙ other.blocks; variables = one.variables ∙ other.variables }

same_back : (p : ProgramShape) (c d : ℕ) → HaveSameText p c d → HaveSameText p d c
same_back p c d same = record { blocks = sym same.blocks; variables = sym same.variables }

-- the first with the text of one is the first with the text of the other
pub one_first : (p : ProgramShape) (c d i j : ℕ) → HaveSameText p c d → IsFirstAlike p c i → IsFirstAlike p d j → i ≡ j
one_first p c d i j same one other =
    let less : i < j → ⊥ = λ l. other.none i l (same_then p i c d one.same same) in
    let more : j < i → ⊥ = λ l. one.none j l (same_then p j d c other.same (same_back p c d same)) in omega (arith, less, more)
