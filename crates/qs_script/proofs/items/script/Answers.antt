use Rattle.std.proofs.Common.{◌≡◌, ◌<◌, length, arith, [], Ok}
use Rattle.std.proofs.lemmas.Result.{err_from_is_err_and}
use Rattle.qs_script.specs.grammar.Reading.{run, end_at, item_at, items_loop}
use Rattle.qs_script.proofs.grammar.Form.{formed}
use Rattle.qs_script.proofs.grammar.Loops.{before_end}
use Rattle.qs_script.proofs.grammar.Readings.{is_script}
use Rattle.qs_script.proofs.Loops.{begins, list_goes_on, list_lawful, one_fails, whole_closes, whole_fails, at_end}
use Rattle.qs_script.proofs.items.script.Goals as goal

pub each-init : goal.each-init
each-init c = record {
  whole = rw c.new-items.ensures.items (begins items_loop [] c.args.tokens.now);
  shorter = omega arith;
}

pub returns-in_err-item : goal.returns-in_err-item
returns-in_err-item c =
    let p = err_from_is_err_and c.from_residual.result c.from_residual.ensures.1 in
    let some : 0 < length c.each.rest.now = grind arith in
    record {
      exact = rw (p.1, p.2)
          (whole_fails items_loop (list_lawful end_at item_at) c.in_err-item.field-0.0 c.args.tokens.now c.each.rest.now c.each.items.items c.each.invariant.whole (before_end c.each.rest.now some) (one_fails end_at item_at c.in_err-item.field-0.0 (item_at c.each.rest.now) c.in_err-item.ensures.exact));
    }

pub each-preserved : goal.each-preserved
each-preserved c =
    let some : 0 < length c.each.rest.now = grind arith in
    record {
      whole = rw c.in_ok-add.ensures.added
          (list_goes_on end_at item_at [] c.args.tokens.now c.each.rest.now c.each.items.items (_, c.in_ok-item.after.now) c.each.invariant.whole (before_end c.each.rest.now some) c.in_ok-item.ensures.exact c.in_ok-item.ensures.shorter);
      shorter = omega (arith, c.in_ok-item.ensures.shorter, c.each.invariant.shorter);
    }

-- what was read is in the grammar, which has scripts of this form alone
pub of-requires : goal.of-requires
of-requires c =
    let none : length c.each.rest.now ≡ 0 = grind arith in
    let ts = c.args.tokens.now in
    let all : run items_loop ts ≡ Ok (c.each.items.items, []) =
    whole_closes items_loop (list_lawful end_at item_at) ts c.each.rest.now [] c.each.items.items c.each.invariant.whole (at_end c.each.rest.now none) in
    record { form = formed c.each.items.items ts [] (is_script ts c.each.items.items all) }

pub returns : goal.returns
returns c =
    let none : length c.each.rest.now ≡ 0 = grind arith in
    record {
      exact = rw c.of.ensures.same
          (whole_closes items_loop (list_lawful end_at item_at) c.args.tokens.now c.each.rest.now [] c.each.items.items c.each.invariant.whole (at_end c.each.rest.now none));
    }
