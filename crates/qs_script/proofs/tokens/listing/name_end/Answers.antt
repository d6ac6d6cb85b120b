use Rattle.std.proofs.Common.{◌∙◌}
use Rattle.qs_script.specs.audit.tokens.Tokens.{is_name_byte}
use Rattle.qs_script.proofs.tokens.Lexemes.{run_take}
use Rattle.qs_script.proofs.tokens.listing.name_end.Goals as goal

pub returns-clause-end : goal.returns-clause-end
returns-clause-end c = c.run_end.ensures.run ∙ run_take is_name_byte 17 c.args.text.now
