use Rattle.std.proofs.Common.{◌∙◌, ap, arith, sym, option_and_then}
use Rattle.qs_line.specs.audit.Line.{number_in}
use Rattle.qs_line.proofs.Numbers.{parsed_chunk, unparsed_within}
use Rattle.qs_line.proofs.line.chunk_of.Goals as goal

pub returns-in_err-ok : goal.returns-in_err-ok
returns-in_err-ok c = record {
  chunk = c.from_residual-in_err-ok.ensures
      ∙ sym (unparsed_within 8 1 32 c.in_ok-text_at.field-0.now c.parse.result (omega arith) c.parse.ensures.value.0 (sym c.ok.ensures.value ∙ c.in_err-ok.was))
      ∙ ap (option_and_then (number_in 1 32)) c.in_ok-text_at.ensures.text;
}

pub returns : goal.returns
returns c = record {
  chunk = parsed_chunk c.in_ok-ok.field-0 c.new.result c.in_ok-text_at.field-0.now c.parse.result c.parse.ensures.value.0 (sym c.ok.ensures.value ∙ c.in_ok-ok.was) c.new.ensures.within c.new.ensures.size
      ∙ ap (option_and_then (number_in 1 32)) c.in_ok-text_at.ensures.text;
}
