use Rattle.qs_levels.proofs.Common.{◌∙◌, ap, arith, Found, no_standing}
use Rattle.qs_levels.proofs.Zips.{part_at, part_long}
use Rattle.qs_levels.proofs.part.LevelPart.load.Goals as goal

pub load-requires : goal.load-requires
load-requires c = record { within = omega (arith, part_long c.args.self.now c.self.inside.marks.items c.self.inside.standings c.self.invariant c.self.view_is) }

pub returns : goal.returns
returns c = record {
  loaded = c.in_ok-load.ensures.loaded no_standing ∙ ap (λ (f : Found). f.standing)
      (part_at c.args.self.now c.self.inside.marks.items c.self.inside.standings c.args.place
      (record { lead = record { source = 0; client = 0 }; going = 0 }) no_standing c.self.invariant c.self.view_is c.requires.within);
}
