use Rattle.std.proofs.Common.{true≢false, sym, ◌∙◌, arith}
use Rattle.std.proofs.lemmas.List.Elements.{AllZip-get_or}
use Rattle.qs_meaning.proofs.TextWalks.{zip_step}
use Rattle.qs_meaning.proofs.texts.are_same_atoms.Goals as goal

pub loop-place-init : goal.loop-place-init
loop-place-init g c = λ s. s

pub returns-then-not-is_same_atom : goal.returns-then-not-is_same_atom
returns-then-not-is_same_atom g c = record {
  same = (
    λ e. absurd (true≢false (sym e)),
    λ whole. sym c.if-not-is_same_atom.true ∙ c.is_same_atom.ensures.same.1 (AllZip-get_or _ _ _ c.loop-place.place _ _ whole c.loop-place-test.true),
  );
}

pub loop-place-preserved : goal.loop-place-preserved
loop-place-preserved g c = λ later.
    c.loop-place.invariant
    (zip_step _ _ _ c.loop-place.place _ _ c.loop-place-test.true (omega (arith, c.loop-place-test.true, c.if-here-there.false))
    (c.is_same_atom.ensures.same.0 c.if-not-is_same_atom.false) later)
