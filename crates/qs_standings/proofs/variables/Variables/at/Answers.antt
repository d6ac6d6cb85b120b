use Rattle.std.proofs.Common.{ap, arith, length, ◌∙◌}
use Rattle.qs_standings.proofs.Spread.{of_all, place_within, read_at_client}
use Rattle.qs_standings.proofs.variables.Variables.at.Goals as goal

pub place_of-first-requires : goal.place_of-first-requires
place_of-first-requires c =
    let less = of_all c.self.inside.width c.self.inside.clients c.args.client c.self.inside.numbers.items c.args.self.now c.self.view_is c.requires in
    record { client = omega (arith, c.self.invariant.few, less); width = c.self.invariant.narrow }

pub widened-requires : goal.widened-requires
widened-requires c =
    let within = place_within c.self.inside.width c.self.inside.clients c.args.client c.self.inside.numbers.items c.args.self.now c.self.view_is c.requires c.self.invariant in
    record { width = c.self.invariant.narrow; within = omega (arith, within, c.place_of-first.ensures.place, ap length c.as_slice.ensures.value) }

pub returns : goal.returns
returns c = record {
  at = c.widened.ensures.widened
      ∙ read_at_client c.self.inside.width c.self.inside.clients _ _ _ _ _ c.self.view_is c.requires c.place_of-first.ensures.place c.as_slice.ensures.value;
}
