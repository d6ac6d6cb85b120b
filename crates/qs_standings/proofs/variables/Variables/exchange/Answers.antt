use Rattle.std.proofs.Common.{ap, arith, length, take, ◌∙◌, length-take}
use Rattle.qs_standings.specs.Rows.{overwritten}
use Rattle.qs_standings.specs.Variables.{spread}
use Rattle.qs_standings.proofs.NextRows.{whole}
use Rattle.qs_standings.proofs.Spread.{exchanged_at, of_all, place_within}
use Rattle.qs_standings.proofs.variables.Variables.exchange.Goals as goal

pub place_of-requires-clause-client : goal.place_of-requires-clause-client
place_of-requires-clause-client c =
    let less = of_all c.self.inside.width c.self.inside.clients c.args.one c.self.inside.numbers.items c.args.self.now c.self.view_is c.requires.0 in
    omega (arith, c.self.invariant.few, less)

pub put_numbers-requires : goal.put_numbers-requires
put_numbers-requires c =
    let within = place_within c.self.inside.width c.self.inside.clients c.args.one c.self.inside.numbers.items c.args.self.now c.self.view_is c.requires.0 c.self.invariant in
    let all = ap length c.as_mut_slice-numbers.ensures.value in
    omega (arith, within, length-take c.self.inside.width c.at-second.result, all, c.place_of.ensures.place)

pub place_of-requires-2-clause-client : goal.place_of-requires-2-clause-client
place_of-requires-2-clause-client c =
    let less = of_all c.self.inside.width c.self.inside.clients c.args.other c.self.inside.numbers.items c.args.self.now c.self.view_is c.requires.1 in
    omega (arith, c.self.invariant.few, less)

pub put_numbers-requires-2 : goal.put_numbers-requires-2
put_numbers-requires-2 c =
    let within = place_within c.self.inside.width c.self.inside.clients c.args.other c.self.inside.numbers.items c.args.self.now c.self.view_is c.requires.1 c.self.invariant in
    let all = c.put_numbers.ensures.long ∙ ap length c.as_mut_slice-numbers.ensures.value in
    omega (arith, within, length-take c.self.inside.width c.at-first.result, all, c.place_of-2.ensures.place)

pub returns : goal.returns
returns c =
    let w = c.self.inside.width in
    let all = ap length c.as_mut_slice-numbers.ensures.value in
    let put = c.put_numbers.ensures.put ∙ ap (λ xs. overwritten xs c.place_of.result (take w c.at-second.result)) c.as_mut_slice-numbers.ensures.value in
    record {
      exchanged = ap (spread w c.self.inside.clients)
          (whole c.self.inside.numbers.items _ _ (c.put_numbers-2.ensures.long ∙ (c.put_numbers.ensures.long ∙ c.as_mut_slice-numbers.ensures.len)))
          ∙ exchanged_at _ _ _ _ _ _ c.self.view_is c.self.invariant c.requires.0 c.requires.1 _ _ _ _ _ _ c.at-first.ensures.at c.at-second.ensures.at
          c.place_of.ensures.place c.place_of-2.ensures.place put (c.put_numbers.ensures.long ∙ all) c.put_numbers-2.ensures.put;
    }
