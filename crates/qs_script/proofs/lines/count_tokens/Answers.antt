use Rattle.std.proofs.Common.{◌∙◌, ◌++◌, ap, arith, length-append}
use Rattle.qs_script.specs.audit.tokens.Tokens.{after, tokens_of}
use Rattle.qs_script.specs.tokens.Cutting.{tokens_in}
use Rattle.qs_script.proofs.tokens.Lexemes.{after-after}
use Rattle.qs_script.proofs.lines.count_tokens.Goals as goal

pub each-preserved : goal.each-preserved
each-preserved c =
    let (ts, whole, count) = c.each.invariant.passed in
    let here = tokens_in c.in_ok-piece.piece in
    record {
      passed = (
        ts ++ here,
        whole ∙ ap (after ts) c.in_ok-piece.ensures.exact ∙ after-after ts here (tokens_of c.in_ok-piece.after.now),
        omega (arith, count, length-append ts here, c.count_of-count.ensures.exact),
      );
      short = omega (arith, c.each.invariant.short, c.in_ok-piece.ensures.shorter, c.count_of-count.ensures.one);
    }
