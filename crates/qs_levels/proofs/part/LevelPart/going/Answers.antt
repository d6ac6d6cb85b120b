use Rattle.qs_levels.proofs.Common.{◌∙◌, ap, arith, Found, no_standing, Mark}
use Rattle.qs_levels.proofs.Zips.{part_at, part_long}
use Rattle.qs_levels.proofs.part.LevelPart.going.Goals as goal

pub index-requires : goal.index-requires
index-requires c = omega (arith, part_long c.args.self.now c.self.inside.marks.items c.self.inside.standings c.self.invariant c.self.view_is)

pub returns : goal.returns
returns c = record {
  going = ap (λ (m : Mark). m.going) c.index.ensures ∙ ap (λ (f : Found). f.going)
      (part_at c.args.self.now c.self.inside.marks.items c.self.inside.standings c.args.place c.index.result.now no_standing c.self.invariant c.self.view_is c.requires.within);
}
