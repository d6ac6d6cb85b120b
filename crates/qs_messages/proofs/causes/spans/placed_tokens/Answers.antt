use Rattle.std.proofs.Common.{◌≡◌, ◌∙◌, ◌-◌, length, drop, ap, sym, arith}
use Rattle.qs_script.specs.audit.tokens.Tokens.{tokens_of}
use Rattle.qs_messages.proofs.Standing.{more, rest_of, stand_more}
use Rattle.qs_messages.proofs.causes.spans.placed_tokens.Goals as goal

pub each-preserved : goal.each-preserved
each-preserved c =
    let text = c.args.text.now in
    let rest = c.each.rest.now in
    let next = c.in-Ok.after.now in
    let old = c.each.tokens.items in
    let start = length text - length rest in
    let end = length text - length next in
    let left : next ≡ drop (length text - length next) text =
    rest_of text rest next c.each.invariant.short c.in-Ok.ensures.shorter c.each.invariant.end_of c.in-Ok.ensures.suffix in
    record {
      short = omega (arith, c.each.invariant.short, c.in-Ok.ensures.shorter);
      end_of = left;
      whole = rw c.in_ok-add_piece-in-Ok.ensures.added
          (c.each.invariant.whole ∙ more old c.in-Ok.piece start end (tokens_of rest) (tokens_of next) c.in-Ok.ensures.exact);
      stand = rw c.in_ok-add_piece-in-Ok.ensures.added
          (stand_more text old c.in-Ok.piece start end (tokens_of rest) (tokens_of next) c.in-Ok.ensures.exact
          (ap tokens_of (sym c.each.invariant.end_of)) (ap tokens_of (sym left))
          (omega (arith, c.each.invariant.short, c.in-Ok.ensures.shorter)) (omega arith) c.each.invariant.stand);
    }
