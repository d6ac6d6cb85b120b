use Rattle.std.proofs.Common.{◌<◌, ◌++◌, length, drop, arith, length-append, length-drop, Ok, Err}
use Rattle.qs_diagnosis.specs.Spots.{line_end_at}
use Rattle.qs_script.specs.audit.tokens.Tokens.{tokens_of}
use Rattle.qs_script.proofs.PassedLines.{fault_line, fault_there, line_cut, next_first, next_front, token_line, tokens_there}
use Rattle.qs_script.proofs.grammar.Readings.{not_both}
use Rattle.qs_script.proofs.lines.line_of.Goals as goal

pub returns-in_default-clause-fault : goal.returns-in_default-clause-fault
returns-in_default-clause-fault c = λ fault is few.
    let text = c.args.text.now in
    let place = c.each.place in
    let cut = line_cut text place c.line_end-end.result (Err c.in_default.field-0) c.line_end-end.ensures.exact c.in_default.ensures.fault in
    rw c.line_at.ensures.exact (fault_line text place c.each.invariant.front.0 c.in_default.field-0 fault c.each.invariant.front.1 c.each.invariant.within c.each.invariant.first cut is)

pub returns-in_default-clause-token : goal.returns-in_default-clause-token
returns-in_default-clause-token c = λ ts is less.
    let text = c.args.text.now in
    let cut = line_cut text c.each.place c.line_end-end.result (Err c.in_default.field-0) c.line_end-end.ensures.exact c.in_default.ensures.fault in
    absurd (not_both (tokens_of text) ts c.in_default.field-0 is (fault_there text c.each.place c.each.invariant.front.0 c.in_default.field-0 c.each.invariant.front.1 cut))

pub returns-in_default-clause-end : goal.returns-in_default-clause-end
returns-in_default-clause-end c = λ ts is more.
    let text = c.args.text.now in
    let cut = line_cut text c.each.place c.line_end-end.result (Err c.in_default.field-0) c.line_end-end.ensures.exact c.in_default.ensures.fault in
    absurd (not_both (tokens_of text) ts c.in_default.field-0 is (fault_there text c.each.place c.each.invariant.front.0 c.in_default.field-0 c.each.invariant.front.1 cut))

pub returns-then-left-count-clause-token : goal.returns-then-left-count-clause-token
returns-then-left-count-clause-token c = λ ts is less.
    let text = c.args.text.now in
    let place = c.each.place in
    let (us, front, sum) = c.each.invariant.front in
    let (vs, tokens, count) = c.in-Ok.ensures.count in
    let cut = line_cut text place c.line_end-end.result (Ok vs) c.line_end-end.ensures.exact tokens in
    let fewer : c.each.left < length vs = omega (arith, c.if-left-count.true, count) in
    rw c.line_at-then-left-count.ensures.exact (token_line text place us vs c.args.number c.each.left front c.each.invariant.within c.each.invariant.first cut sum fewer)

pub returns-then-left-count-clause-end : goal.returns-then-left-count-clause-end
returns-then-left-count-clause-end c = λ ts is more.
    let text = c.args.text.now in
    let place = c.each.place in
    let (us, front, sum) = c.each.invariant.front in
    let (vs, tokens, count) = c.in-Ok.ensures.count in
    let cut = line_cut text place c.line_end-end.result (Ok vs) c.line_end-end.ensures.exact tokens in
    absurd (omega (arith, tokens_there text place us vs ts front cut is, more, sum, count, c.if-left-count.true))

pub each-preserved : goal.each-preserved
each-preserved c =
    let text = c.args.text.now in
    let place = c.each.place in
    let (us, front, sum) = c.each.invariant.front in
    let (vs, tokens, count) = c.in-Ok.ensures.count in
    let cut = line_cut text place c.line_end-end.result (Ok vs) c.line_end-end.ensures.exact tokens in
    let inner : line_end_at text place < length (drop place text) =
    omega (arith, length-drop place text, c.line_end-end.ensures.exact, c.line_end-end.ensures.within, c.each.invariant.within, c.if-end-text.false) in
    record {
      front = (
        us ++ vs,
        rw c.line_end-end.ensures.exact (next_front text place us vs front c.each.invariant.within inner cut),
        omega (arith, sum, count, length-append us vs, c.if-left-count.false),
      );
      first = rw c.line_end-end.ensures.exact (next_first text place c.each.invariant.within inner);
      few = omega (arith, c.each.invariant.few, c.line_end-end.ensures.exact, c.line_end-end.ensures.after, c.in-Ok.ensures.within, count, c.if-left-count.false);
      within = omega (arith, c.line_end-end.ensures.within, c.if-end-text.false);
    }
