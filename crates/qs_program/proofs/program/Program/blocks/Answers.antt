use Rattle.std.proofs.Common.{ap, arith, length, sum_by}
use Rattle.std.proofs.lemmas.List.Sums.{sum_by_more_le}
use Rattle.qs_program.specs.audit.Program.{ClientShape}
use Rattle.qs_program.proofs.Bounds.{blocks-bound}
use Rattle.qs_program.proofs.program.Program.blocks.Goals as goal

pub overflow_add-count : goal.overflow_add-count
overflow_add-count c =
    omega (
      arith,
      c.loop-client.invariant,
      c.len-count.ensures.value,
      ap (λ (d : ClientShape). length d.blocks) c.client-item.is,
      sum_by_more_le (λ (d : ClientShape). length d.blocks) c.deref-client-items.result.now c.loop-client.client-index c.client-item.result c.loop-client-test.true,
      blocks-bound c.self.inside.objects.items c.self.inside.clients.items c.self.invariant.0.each,
      c.self.invariant.0.clients,
      ap (sum_by (λ (d : ClientShape). length d.blocks)) c.deref-client-items.ensures.value,
    )
