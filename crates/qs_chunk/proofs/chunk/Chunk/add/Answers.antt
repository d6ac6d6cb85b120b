use Rattle.std.proofs.Common.{◌+◌, ◌==◌, [], ◌∷◌, ◌++◌, sym, ap, ◌∙◌, subst, arith}
use Rattle.qs_chunk.specs.audit.Batch.{batch}
use Rattle.qs_chunk.specs.Ring.{IsRing, ring_values}
use Rattle.qs_chunk.proofs.Rings.{free_place, pushed}
use Rattle.qs_chunk.proofs.chunk.Chunk.add.Goals as goal

pub write-requires : goal.write-requires
write-requires g c = let room = (rw (← c.self.view_is) at c.requires.room) in let free = free_place c.self.invariant.0 c.place_on-back.result (omega (arith, room, c.self.invariant.0.counted.0)) c.place_on-back.ensures in record { inside = free.0; empty = free.1 }

pub invariant_of-self : goal.invariant_of-self
invariant_of-self g c =
    let room = (rw (← c.self.view_is) at c.requires.room) in
    let i = c.self.invariant in let h = c.self.inside in let w = c.write.ensures in
    (subst (λ l. IsRing l h.capacity h.start (h.count + 1)) (sym w.places) (pushed i.0 c.place_on-back.result c.args.item (omega (arith, room, c.self.invariant.0.counted.0)) c.place_on-back.ensures).0, w.giver ∙ i.1, i.2, i.3)

pub returns-clause-added : goal.returns-clause-added
returns-clause-added g c =
    let room = (rw (← c.self.view_is) at c.requires.room) in
    let h = c.self.inside in
    ap (λ xs. batch xs h.capacity) (ap (ring_values h.start) c.write.ensures.places ∙ (pushed c.self.invariant.0 c.place_on-back.result c.args.item (omega (arith, room, c.self.invariant.0.counted.0)) c.place_on-back.ensures).1)
    ∙ ap (λ v. batch (v.items ++ c.args.item ∷ []) v.capacity) c.self.view_is

pub returns-clause-full : goal.returns-clause-full
returns-clause-full g c =
    let room = (rw (← c.self.view_is) at c.requires.room) in
    let h = c.self.inside in
    let ring = subst (λ l. IsRing l h.capacity h.start (h.count + 1)) (sym c.write.ensures.places) (pushed c.self.invariant.0 c.place_on-back.result c.args.item (omega (arith, room, c.self.invariant.0.counted.0)) c.place_on-back.ensures).0 in
    ap (λ n. n == h.capacity) ring.counted.0
