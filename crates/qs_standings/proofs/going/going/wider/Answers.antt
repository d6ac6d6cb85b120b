use Rattle.std.proofs.Common.{◌≡◌, ◌<◌, ◌+◌, ◌&&◌, ◌||◌, ℕ, arith, ap, bit_or, get_or, length, subst, sym, ◌∙◌}
use Rattle.qs_meaning.specs.Reduced.{comes_in, some_below}
use Rattle.qs_standings.specs.going.Going.{begun_counts, in_byte}
use Rattle.qs_standings.proofs.going.GoingSets.{in_set, member_more, member_skipped, out_of_set}
use Rattle.qs_standings.proofs.going.going.wider.Goals as goal
use Rattle.qs_standings.proofs.going.going.wider.Goals.{then-set-client-eq1, else-set-client-eq1}

pub loop-client-preserved : goal.loop-client-preserved
loop-client-preserved c =
    let p = c.args.program.now in
    let i = c.loop-client.client in
    let comes = comes_in p (begun_counts c.args.begun.now) in
    let inside : i < length p.clients = (let e = c.clients-client-end.ensures.value in omega (arith, e)) in
    elim c.if-set-client-eq1.branch [
      | then-set-client-eq1 w ↦
          subst (λ all. (d : ℕ) → in_byte all d ≡ (in_byte c.args.set d || some_below (i + 1) (λ k. in_byte c.args.set k && comes k d)))
          (sym (w.all-is ∙ ap (λ k. bit_or c.loop-client.all (get_or c.args.rows.now k 0)) w.from.ensures))
          (member_more c.args.set c.loop-client.all (get_or c.args.rows.now i 0) i comes (c.requires.rows i inside) (in_set c.args.set i w.if-set-client-eq1.true) c.loop-client.invariant)
      | else-set-client-eq1 w ↦
          subst (λ all. (d : ℕ) → in_byte all d ≡ (in_byte c.args.set d || some_below (i + 1) (λ k. in_byte c.args.set k && comes k d))) (sym w.all-is)
          (member_skipped c.args.set c.loop-client.all i comes (out_of_set c.args.set i w.if-set-client-eq1.false) c.loop-client.invariant)
    ]
