use Rattle.std.proofs.Common.{◌≡◌, ◌≤◌, sym, ◌∙◌, subst, arith}
use Rattle.qs_sync_counts.specs.SyncRows.{counts_state}
use Rattle.qs_chunk.specs.Limits.{largest_chunk}
use Rattle.qs_client.specs.run.Beginning.{fresh_run}
use Rattle.qs_client.specs.SoundMind.{IsSoundMind}
use Rattle.qs_client.specs.MindState.{mind_of}
use Rattle.qs_client.proofs.FreshMinds.{fresh_is, fresh_sound, fresh_with}
use Rattle.qs_client.proofs.mind.Mind.new.Goals as goal

pub invariant_of-result : goal.invariant_of-result
invariant_of-result c =
    let run : c.in_ok-run.run' ≡ fresh_run c.args.code.blocks = c.in_ok-run.ensures.fresh in
    let sized : (1 ≤ c.args.size) × (c.args.size ≤ largest_chunk) = subst (λ n. (1 ≤ n) × (n ≤ largest_chunk)) c.get.ensures.size c.get.ensures.within in
    let none = c.in_ok-entries.ensures.items in (
      omega (arith, c.in_ok-entries.ensures.capacity, c.blocks-2.ensures.value),
      subst IsSoundMind (λ i. fresh_with c.args.code c.args.size (sym run i) (sym none i) (counts_state (sym c.in_ok-counts.ensures.fresh i) c.in_ok-counts.counts.room))
          (fresh_sound c.args.code c.args.size c.in_ok-counts.counts.room c.keeps_code.ensures.code sized),
    )

pub returns-clause-fresh : goal.returns-clause-fresh
returns-clause-fresh c =
    let run : c.in_ok-run.run' ≡ fresh_run c.args.code.blocks = c.in_ok-run.ensures.fresh in
    let none = c.in_ok-entries.ensures.items in
    (λ i. mind_of (fresh_with c.args.code c.args.size (run i) (none i) (counts_state (c.in_ok-counts.ensures.fresh i) c.in_ok-counts.counts.room)))
    ∙ fresh_is c.args.code c.args.size c.in_ok-counts.counts.room
