use Rattle.std.proofs.Common.{◌≡◌, ◌<◌, ◌&&◌, ℕ, ◌+◌, arith, length, nat_lt, subst, sym}
use Rattle.qs_meaning.specs.Reduced.{still_reserves}
use Rattle.qs_standings.specs.going.Going.{begun_counts, in_byte}
use Rattle.qs_standings.proofs.going.GoingSets.{all_clients, client_more, client_skipped, no_more, still_so}
use Rattle.qs_standings.proofs.going.going.holders.Goals as goal
use Rattle.qs_standings.proofs.going.going.holders.Goals.{then-begun-place, else-begun-place}

pub loop-client-preserved : goal.loop-client-preserved
loop-client-preserved c =
    let p = c.args.program.now in
    let still : ℕ → _ = λ d. still_reserves p (begun_counts c.args.begun.now) d c.args.object in
    let inside : c.loop-client.client < length p.clients = (let e = c.clients-client-end.ensures.value in omega (arith, e)) in
    let few : c.loop-client.client < 8 = (let e = c.keeps_sound.ensures.sound.clients in omega (arith, e, inside)) in
    elim c.if-begun-place.branch [
      | then-begun-place w ↦
          subst (λ set. (d : ℕ) → in_byte set d ≡ (nat_lt d (c.loop-client.client + 1) && still d)) (sym w.set-is)
          (client_more still _ c.loop-client.set few (still_so _ c.args.begun.now _ c.requires.last _ _ _ inside c.requires.object c.from-place.ensures
          w.if-begun-place.true) c.loop-client.invariant)
      | else-begun-place w ↦
          subst (λ set. (d : ℕ) → in_byte set d ≡ (nat_lt d (c.loop-client.client + 1) && still d)) (sym w.set-is)
          (client_skipped still c.loop-client.client c.loop-client.set (no_more _ c.args.begun.now _ c.requires.last _ _ _ inside c.requires.object
          c.from-place.ensures w.if-begun-place.false) c.loop-client.invariant)
    ]

pub returns : goal.returns
returns c = record {
  holders = all_clients c.args.program.now (begun_counts c.args.begun.now) c.args.object c.loop-client.client c.loop-client.set
      (let e = c.clients-client-end.ensures.value in let s = c.keeps_sound.ensures.sound.clients in omega (arith, e, s)) c.loop-client.invariant;
}
