use Rattle.std.proofs.Common.{◌≡◌, ◌==◌, ap, arith, length, sym, ◌∙◌}
use Rattle.qs_meaning.specs.Reduced.{wider}
use Rattle.qs_standings.specs.going.Going.{begun_counts, in_byte}
use Rattle.qs_standings.proofs.going.GoingSets.{in_one, stays}
use Rattle.qs_standings.proofs.going.going.group.Goals as goal

pub loop-round-init : goal.loop-round-init
loop-round-init c = in_one c.args.client (let s = c.keeps_sound.ensures.sound.clients in let l = c.requires.client in omega (arith, s, l))

pub returns-then-all-set : goal.returns-then-all-set
returns-then-all-set c =
    let same : wider c.args.program.now (begun_counts c.args.begun.now) (in_byte c.loop-round.set) ≡ in_byte c.loop-round.set =
    sym c.wider-all.ensures.wider ∙ ap in_byte c.if-all-set.true in
    record {
      group = stays c.args.program.now (begun_counts c.args.begun.now) (in_byte c.loop-round.set) (λ d. c.args.client == d) c.loop-round._round (length c.args.program.now.clients)
          (let e = c.clients-round-end.ensures.value in omega (arith, e)) same c.loop-round.invariant;
    }
