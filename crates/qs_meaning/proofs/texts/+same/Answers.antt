use Rattle.std.proofs.Common.{true≢false, sym, ap, ◌∙◌, refl, arith}
use Rattle.std.proofs.lemmas.List.Elements.{length_all_zip}
use Rattle.qs_program.proofs.StatementLists.{size_at}
use Rattle.qs_program.specs.Views.{single, size_of}
use Rattle.qs_meaning.proofs.TextWalks.{SameStmt, listed, unlisted, zip_at, zip_end, zip_step_at}
use Rattle.qs_meaning.proofs.texts.+same.Goals as goal

pub is_same_body-returns-then-stmts-others : goal.is_same_body-returns-then-stmts-others
is_same_body-returns-then-stmts-others g t c =
    let O = g.M.Matching.Objects c.args.matching.now in
    let V = g.M.Matching.Variables c.args.matching.now in
    let xs = c.as_slice-stmts.result.now in
    let ys = c.as_slice-others.result.now in
    record {
      same = (
        λ e. absurd (true≢false (sym e)),
        λ whole. absurd (c.if-stmts-others.true (length_all_zip (SameStmt O V) xs ys
            (listed O V c.args.here.now c.args.there.now xs ys c.as_slice-stmts.ensures.value c.as_slice-others.ensures.value whole))),
      );
    }

pub is_same_body-is_same_stmt-requires : goal.is_same_body-is_same_stmt-requires
is_same_body-is_same_stmt-requires g t c =
    let items = c.as_slice-stmts.result.now in
    let item = c.index-stmts-place.result in
    λ lifetimes outlives. (
      omega (
        arith,
        c.decreases,
        size_at items c.loop-place.place item c.loop-place-test.true,
        ap (λ s. size_of (single s)) c.index-stmts-place.is,
        ap size_of c.as_slice-stmts.ensures.value,
      ),
      outlives,
    )

pub is_same_body-loop-place-init : goal.is_same_body-loop-place-init
is_same_body-loop-place-init g t c = λ s. s

pub is_same_body-returns-then-not-is_same_stmt : goal.is_same_body-returns-then-not-is_same_stmt
is_same_body-returns-then-not-is_same_stmt g t c =
    let O = g.M.Matching.Objects c.args.matching.now in
    let V = g.M.Matching.Variables c.args.matching.now in
    let xs = c.as_slice-stmts.result.now in
    let ys = c.as_slice-others.result.now in
    record {
      same = (
        λ e. absurd (true≢false (sym e)),
        λ whole. sym c.if-not-is_same_stmt.true ∙ c.is_same_stmt.ensures.same.1
            (zip_at (SameStmt O V) xs ys c.loop-place.place c.index-stmts-place.result c.index-others-place.result c.loop-place-test.true
            c.index-stmts-place.is c.index-others-place.is
            (listed O V c.args.here.now c.args.there.now xs ys c.as_slice-stmts.ensures.value c.as_slice-others.ensures.value whole)),
      );
    }

pub is_same_body-loop-place-preserved : goal.is_same_body-loop-place-preserved
is_same_body-loop-place-preserved g t c = λ later.
    c.loop-place.invariant
    (zip_step_at _ c.as_slice-stmts.result.now c.as_slice-others.result.now c.loop-place.place c.index-stmts-place.result
    c.index-others-place.result c.loop-place-test.true (omega (arith, c.loop-place-test.true, c.if-stmts-others.false))
    c.index-stmts-place.is c.index-others-place.is (c.is_same_stmt.ensures.same.0 c.if-not-is_same_stmt.false) later)

pub is_same_body-returns : goal.is_same_body-returns
is_same_body-returns g t c =
    let O = g.M.Matching.Objects c.args.matching.now in
    let V = g.M.Matching.Variables c.args.matching.now in
    let xs = c.as_slice-stmts.result.now in
    let ys = c.as_slice-others.result.now in
    record {
      same = (
        λ e. unlisted O V c.args.here.now c.args.there.now xs ys c.as_slice-stmts.ensures.value c.as_slice-others.ensures.value
            (c.loop-place.invariant
            (zip_end (SameStmt O V) xs ys c.loop-place.place c.loop-place-test.false (omega (arith, c.loop-place-test.false, c.if-stmts-others.false)))),
        λ whole. refl,
      );
    }
