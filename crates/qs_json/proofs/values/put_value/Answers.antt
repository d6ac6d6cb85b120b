use Rattle.std.proofs.Common.{◌≡◌, FitsSigned, ℤ, of_z, rules, to_z}
use Rattle.std.proofs.lemmas.Int.{to_z-of_z}
use Rattle.std.specs.Int.{w128}
use Rattle.qs_text.proofs.Parts.{last, then}
use Rattle.qs_json.proofs.values.put_value.Goals as goal

pub returns : goal.returns
returns c =
    let n : ℤ = c.args.value.value in
    let fits : FitsSigned w128 n = search rules in
    let same : to_z w128 (of_z w128 n) ≡ n = to_z-of_z w128 n fits in
    let order = rw (c.order.ensures.order, c.outcome_at.ensures.standing) at c.in_ok-put_order.ensures.ok in
    record {
      ok = last _ _ _ (then (then (rw same at c.in_ok-put_sum.ensures.ok) c.in_ok-put_count.ensures.ok) order) c.put_word.ensures.ok;
    }
