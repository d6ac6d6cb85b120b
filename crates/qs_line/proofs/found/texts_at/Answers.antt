use Rattle.std.proofs.Common.{◌∙◌}
use Rattle.clap.specs.Words.{found_of}
use Rattle.clap.proofs.WalkLemmas.{raw_values-rows}
use Rattle.qs_line.proofs.found.texts_at.Goals as goal

pub returns : goal.returns
returns c = record { texts = c.get_strs.ensures ∙ raw_values-rows (found_of c.args.found.now) c.args.name.now }
