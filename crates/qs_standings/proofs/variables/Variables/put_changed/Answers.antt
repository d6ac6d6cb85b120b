use Rattle.std.proofs.Common.{◌*◌, ap, arith, length, subst, sym, take, ◌∙◌}
use Rattle.qs_standings.specs.Rows.{overwritten}
use Rattle.qs_standings.specs.Variables.{IsSpread, spread}
use Rattle.qs_standings.proofs.NextRows.{whole}
use Rattle.qs_standings.proofs.Spread.{all_are, changed_at, of_all}
use Rattle.qs_standings.proofs.variables.Variables.put_changed.Goals as goal

pub place_of-requires-clause-client : goal.place_of-requires-clause-client
place_of-requires-clause-client c =
    let less = of_all c.self.inside.width c.self.inside.clients c.args.client c.self.inside.numbers.items c.args.self.now c.self.view_is c.requires in
    omega (arith, c.self.invariant.few, less)

pub invariant_of-changed-2 : goal.invariant_of-changed-2
invariant_of-changed-2 c =
    let w = c.in_ok-width.width in
    let n = ap (λ m. m * w) (all_are c.self.inside.width c.self.inside.clients c.self.inside.numbers.items c.args.self.now c.self.view_is) in
    let all = c.in_ok-width.ensures.long in
    let long = c.put_numbers.ensures.long ∙ ap length c.as_mut_slice.ensures.value in
    subst (IsSpread w c.self.inside.clients)
    (sym (whole c.put_with_room.new.numbers.items c.put_numbers.new.row c.put_with_room.new.numbers.len (c.put_numbers.ensures.long ∙ c.as_mut_slice.ensures.len)))
    (record { narrow = c.in_ok-width.ensures.few; few = c.self.invariant.few; all = omega (arith, n, all, long) })

pub returns : goal.returns
returns c =
    let w = c.in_ok-width.width in
    let n = c.self.inside.clients in
    let numbers = c.put_with_room.new.numbers.items in
    let many = all_are c.self.inside.width n c.self.inside.numbers.items c.args.self.now c.self.view_is in
    let room : IsSpread w n numbers =
    record { narrow = c.in_ok-width.ensures.few; few = c.self.invariant.few; all = (let m = ap (λ m. m * w) many in let all = c.in_ok-width.ensures.long in omega (arith, m, all)) } in
    let put = c.put_numbers.ensures.put ∙ ap (λ xs. overwritten xs c.place_of.result (take w c.args.values.now)) c.as_mut_slice.ensures.value in
    record {
      set = ap (spread w n) (whole numbers c.put_numbers.new.row c.put_with_room.new.numbers.len (c.put_numbers.ensures.long ∙ c.as_mut_slice.ensures.len))
          ∙ changed_at w n c.args.client c.place_of.result numbers c.put_numbers.new.row c.args.values.now c.args.self.now
          ((λ i. spread w (sym many i) numbers) ∙ c.in_ok-width.ensures.same) room
          (of_all c.self.inside.width n c.args.client c.self.inside.numbers.items c.args.self.now c.self.view_is c.requires)
          c.told-values c.in_ok-width.ensures.room c.place_of.ensures.place put;
    }
