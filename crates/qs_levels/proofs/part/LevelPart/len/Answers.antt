use Rattle.qs_levels.proofs.Common.{arith}
use Rattle.qs_levels.proofs.Zips.{part_long}
use Rattle.qs_levels.proofs.part.LevelPart.len.Goals as goal

pub returns : goal.returns
returns c = record { len = omega (arith, part_long c.args.self.now c.self.inside.marks.items c.self.inside.standings c.self.invariant c.self.view_is) }
