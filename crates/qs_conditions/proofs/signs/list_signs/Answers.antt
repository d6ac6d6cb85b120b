use Rattle.std.proofs.Common.{◌≡◌, ◌∙◌, sym, arith, Err}
use Rattle.std.proofs.lemmas.List.{take_rest}
use Rattle.std.proofs.lemmas.Result.{err_from_is_err_and}
use Rattle.qs_conditions.specs.Signs.{signs_of}
use Rattle.qs_conditions.proofs.Lexer.{sign_bounds, signs_step, signs_fault, fault_of}
use Rattle.qs_conditions.proofs.signs.list_signs.Goals as goal

pub returns-in_err-sign-clause-fault : goal.returns-in_err-sign-clause-fault
returns-in_err-sign-clause-fault c =
    let fault : signs_of c.args.text.now ≡ Err c.in_err-sign.field-0.0 =
    signs_fault c.args.text.now _ c.each.signs.items c.each.place c.in_err-sign.field-0.0 (take_rest c.args.text.now c.each.place) c.each-test.true
    (sym c.space.ensures.exact ∙ c.if-space.false) c.in_err-sign.ensures.exact c.each.invariant.so_far in
    let p = err_from_is_err_and c.from_residual.result c.from_residual.ensures.1 in
    rw (p.1, p.2) (fault_of c.args.text.now c.in_err-sign.field-0.0 fault)

pub overflow_add-place-else-space : goal.overflow_add-place-else-space
overflow_add-place-else-space c =
    let b = sign_bounds c.args.text.now _ c.each.place (c.in_ok-sign.sign, c.in_ok-sign.bytes) (take_rest c.args.text.now c.each.place) c.each.invariant.within c.in_ok-sign.ensures.exact in
    grind (arith, b)

pub each-smaller : goal.each-smaller
each-smaller c =
    let b = sign_bounds c.args.text.now _ c.each.place (c.in_ok-sign.sign, c.in_ok-sign.bytes) (take_rest c.args.text.now c.each.place) c.each.invariant.within c.in_ok-sign.ensures.exact in
    omega (arith, b.0, b.1)

pub each-preserved : goal.each-preserved
each-preserved c =
    let b = sign_bounds c.args.text.now _ c.each.place (c.in_ok-sign.sign, c.in_ok-sign.bytes) (take_rest c.args.text.now c.each.place) c.each.invariant.within c.in_ok-sign.ensures.exact in
    record {
      so_far = signs_step c.args.text.now _ c.each.signs.items c.add.new.list.items c.each.place (c.in_ok-sign.sign, c.in_ok-sign.bytes) (take_rest c.args.text.now c.each.place) c.each-test.true
          (sym c.space.ensures.exact ∙ c.if-space.false) c.in_ok-sign.ensures.exact c.each.invariant.so_far c.in_ok-add.ensures.added;
      within = b.1;
    }
