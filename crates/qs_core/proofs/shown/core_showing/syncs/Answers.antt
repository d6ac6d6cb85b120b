use Rattle.std.proofs.Common.{◌+◌, ℕ, ap, sym, ◌∙◌, sum_by, arith}
use Rattle.std.specs.List.{range_with_len}
use Rattle.qs_core_laws.proofs.Names.{ClientModel, sum_by-range_more}
use Rattle.qs_core.specs.state.CoreState.{client_part_at}
use Rattle.qs_core.proofs.shown.core_showing.syncs.Goals as goal

pub loop-number-preserved : goal.loop-number-preserved
loop-number-preserved c =
    let f : ℕ → ℕ = λ n. (client_part_at c.args.clients.now n).mind.syncs in
    let n = c.loop-number.number in
    let sent = c.syncs_of-syncs.ensures.value ∙ ap (λ (m : ClientModel). m.syncs) c.client_at.ensures.mind in
    record {
      value = ap (λ k. k + c.syncs_of-syncs.result) c.loop-number.invariant.value ∙ ap (λ k. sum_by f (range_with_len 0 n) + k) sent ∙ sym (sum_by-range_more f n);
      limit = omega (arith, c.loop-number.invariant.limit, c.syncs_of-syncs.ensures.few);
    }
