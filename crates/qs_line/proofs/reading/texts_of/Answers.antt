use Rattle.std.proofs.lemmas.Iterator.Consumers.{map_from_collect}
use Rattle.std.proofs.lemmas.Iterator.Splits.{YieldsList-from_str_split}
use Rattle.qs_line.proofs.reading.texts_of.Goals as goal

pub returns : goal.returns
returns c = record {
  parts = map_from_collect _ c.collect.ensures.ran (YieldsList-from_str_split c.args.sign c.args.text.now c.requires.byte c.split.ensures.text c.split.ensures.has_more c.split.ensures.pattern);
}
