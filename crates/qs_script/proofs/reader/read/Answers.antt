use Rattle.std.proofs.Common.{◌≡◌, ◌-◌, length, subst, arith, Ok, Err}
use Rattle.qs_script.specs.audit.tokens.Tokens.{tokens_of}
use Rattle.qs_script.specs.Lines.{IsTokenLine}
use Rattle.qs_script.specs.grammar.Reading.{items_loop, run}
use Rattle.qs_script.specs.Reads.{IsFormLine}
use Rattle.qs_script.proofs.grammar.Readings.{is_script, is_no_script}
use Rattle.qs_script.proofs.grammar.Places.{form_place}
use Rattle.qs_script.proofs.reader.read.Goals as goal

pub returns-in-Ok-clause-exact : goal.returns-in-Ok-clause-exact
returns-in-Ok-clause-exact c = record {
  short = omega arith;
  tokens = c.as_slice.result.now;
  cut = rw c.as_slice.ensures.value c.in_ok-tokens.ensures.tokens;
  tree = is_script c.as_slice.result.now c.in-Ok.script c.in-Ok.ensures.exact;
}

pub returns-in-Err-Form-clause-exact : goal.returns-in-Err-Form-clause-exact
returns-in-Err-Form-clause-exact c =
    let ts = c.as_slice.result.now in
    let left = c.in-Err-Form.left in
    let stops : run items_loop ts ≡ Err left = rw c.in-Err-Form.field-0-is at c.in-Err-Form.ensures.exact in
    let cut : tokens_of c.args.text.now ≡ Ok ts = rw c.as_slice.ensures.value c.in_ok-tokens.ensures.tokens in
    let count : c.saturating_sub.result ≡ length ts - left = omega (arith, c.saturating_sub.ensures, c.len.ensures, c.as_slice.ensures.len) in
    let line : IsFormLine c.args.text.now ts c.line_of.result = record {
      place = length ts - left;
      there = form_place ts left stops;
      at_token = λ less. subst (λ n. IsTokenLine c.args.text.now n c.line_of.result) count (c.line_of.ensures.token ts cut (omega (arith, less, count)));
      at_end = λ more. c.line_of.ensures.end ts cut (omega (arith, more, count));
    } in
    (omega arith, ts, cut, is_no_script ts left stops, line)
