use Rattle.qs_levels.proofs.Common.{◌≡◌, ◌+◌, ◌%◌, ◌==◌, ◌∙◌, ℕ, Bool, ap, sym, subst, true, client_more, client_skipped, eqb_apart, eqb_self, in_byte, weight}
use Rattle.qs_levels.proofs.share.mask.Goals as goal
use Rattle.qs_levels.proofs.share.mask.Goals.{then-from-weight, else-from-weight}

pub loop-client-preserved : goal.loop-client-preserved
loop-client-preserved c =
    let still : ℕ → Bool = λ k. ((c.args.from + weight k) % c.args.share.count == c.args.share.number) in
    let value : (c.args.from + c.weight.result) % c.args.share.count ≡ (c.args.from + weight c.loop-client.client) % c.args.share.count =
    ap (λ w. (c.args.from + w) % c.args.share.count) c.weight.ensures.weight in
    elim c.if-from-weight.branch [
      | then-from-weight w ↦ λ k.
          ap (λ set. in_byte set k) w.set-is
          ∙ client_more still c.loop-client.client c.loop-client.set c.loop-client-test.true (subst (λ n. (n == c.args.share.number) ≡ true) (sym w.if-from-weight.true ∙ value) (eqb_self c.args.share.number)) c.loop-client.invariant k
      | else-from-weight w ↦ λ k.
          ap (λ set. in_byte set k) w.set-is
          ∙ client_skipped still c.loop-client.client c.loop-client.set (eqb_apart ((c.args.from + weight c.loop-client.client) % c.args.share.count) c.args.share.number (λ e. w.if-from-weight.false (value ∙ e)))
          c.loop-client.invariant k
    ]
