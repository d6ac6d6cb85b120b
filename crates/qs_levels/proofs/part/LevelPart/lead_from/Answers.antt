use Rattle.qs_levels.proofs.Common.{◌∙◌, ◌<◌, length, Some, ap, arith, sym, Found, no_standing, Mark}
use Rattle.qs_levels.proofs.Zips.{first_past, first_there, part_at, part_long}
use Rattle.qs_levels.proofs.part.LevelPart.lead_from.Goals as goal

pub returns-then-place-len : goal.returns-then-place-len
returns-then-place-len c = record {
  first = sym (first_past c.args.self.now c.args.place (omega (arith, part_long c.args.self.now c.self.inside.marks.items c.self.inside.standings c.self.invariant c.self.view_is)));
}

pub index-requires : goal.index-requires
index-requires c = omega arith

pub returns : goal.returns
returns c =
    let less : c.args.place < length c.args.self.now = omega (arith, part_long c.args.self.now c.self.inside.marks.items c.self.inside.standings c.self.invariant c.self.view_is) in
    record {
      first = ap (λ (m : Mark). Some m.lead) c.index.ensures
          ∙ ap (λ (f : Found). Some f.lead) (part_at c.args.self.now c.self.inside.marks.items c.self.inside.standings c.args.place c.index.result.now no_standing c.self.invariant c.self.view_is less)
          ∙ sym (first_there c.args.self.now c.args.place less);
    }
