use Rattle.std.proofs.Common.{◌-◌, ◌∷◌, sym, ap, ◌∙◌, subst, arith}
use Rattle.qs_chunk.specs.audit.Batch.{batch}
use Rattle.qs_chunk.specs.Ring.{IsRing, ring_values}
use Rattle.qs_chunk.proofs.Rings.{full_place, taken}
use Rattle.qs_chunk.proofs.chunk.Chunk.take_front.Goals as goal

pub read-requires : goal.read-requires
read-requires g c = let first = full_place c.self.invariant.0 (omega arith) in record { inside = first.0; full = first.1 }

pub invariant_of-self : goal.invariant_of-self
invariant_of-self g c =
    let i = c.self.invariant in let h = c.self.inside in let r = c.read.ensures in let next = c.place_after-self-inside.result in
    (subst (λ l. IsRing l h.capacity next (h.count - 1)) (sym r.places) (taken i.0 next c.read.result (omega arith) c.place_after-self-inside.ensures r.value).0, r.giver ∙ i.1, i.2, i.3)

pub returns-clause-some : goal.returns-clause-some
returns-clause-some g c =
    let r = c.read.ensures in let next = c.place_after-self-inside.result in
    sym c.self.view_is ∙ ap (λ xs. batch xs c.self.inside.capacity)
    ((taken c.self.invariant.0 next c.read.result (omega arith) c.place_after-self-inside.ensures r.value).1 ∙ ap (λ l. c.read.result ∷ ring_values next l) (sym r.places))
