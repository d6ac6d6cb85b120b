use Rattle.qs_levels.proofs.Common.{rules}
use Rattle.qs_meaning.proofs.Each.{each_map}
use Rattle.qs_levels.proofs.parts.led_part.Goals as goal

pub led_on-requires-clause-level : goal.led_on-requires-clause-level
led_on-requires-clause-level c = search (rules, each_map)
