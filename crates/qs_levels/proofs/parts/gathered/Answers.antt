use Rattle.qs_levels.proofs.Common.{◌≡◌, ◌∷◌, [], IfOk, ap, arith, length, length-append, slice_index_or, subst, sym, ◌∙◌, IsPartOf, IsPartLed}
use Rattle.qs_levels.proofs.Merged.{parts_more}
use Rattle.qs_levels.proofs.parts.gathered.Goals as goal

pub loop-number-preserved : goal.loop-number-preserved
loop-number-preserved c =
    let p = c.args.step.now.search.program.now in
    let front = c.args.step.now.search.front.now in
    let level = c.args.step.now.level.now.standings in
    let number = c.loop-number.number in
    let count = c.args.count in
    let same : c.taken.result ≡ slice_index_or c.args.results.items number c.taken.result =
    c.taken.ensures.taken ∙ c.loop-number.invariant.behind number c.taken.result (omega arith) in
    let led : IsPartLed p front level c.args.step.now.room number count c.taken.result =
    subst (IsPartLed p front level c.args.step.now.room number count) (sym same) (c.requires.each number c.taken.result c.loop-number-test.true) in
    let part : IsPartOf p front number count level c.in_ok-part.part = subst (λ r. IfOk r (IsPartOf p front number count level)) c.in_ok-part.was led.ok in
    record {
      parts = λ i less.
          rw c.in_ok-add_part.ensures.added (parts_more p front level count c.loop-number.parts.items c.in_ok-part.part c.loop-number.invariant.parts
          (subst (λ k. IsPartOf p front k count level c.in_ok-part.part) (sym c.loop-number.invariant.count) part) i (let e = ap length c.in_ok-add_part.ensures.added in omega (arith, e, less)));
      count = (let e = ap length c.in_ok-add_part.ensures.added in let f = length-append c.loop-number.parts.items (c.in_ok-part.part ∷ []) in let n = c.loop-number.invariant.count in omega (arith, e, f, n));
      long = c.taken.ensures.len ∙ c.loop-number.invariant.long;
      behind = λ k d past. c.taken.ensures.behind k d (omega (arith, past)) ∙ c.loop-number.invariant.behind k d (omega (arith, past));
    }
