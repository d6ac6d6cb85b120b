use Rattle.std.proofs.Common.{refl, ◌∙◌, arith}
use Rattle.qs_chunk.specs.audit.Batch.{batch}
use Rattle.qs_chunk.proofs.Rings.{fresh}
use Rattle.qs_chunk.proofs.chunk.Chunk.with_capacity.Goals as goal

pub invariant_of-result : goal.invariant_of-result
invariant_of-result g c =
    let made = c.in_ok-room.ensures in let low = c.get.ensures.within.0 in let high = c.get.ensures.within.1 in let is = c.from-capacity.ensures in
    ((fresh c.in_ok-room.room.places c.from-capacity.result 0 0 made.places refl refl (omega arith)).0, made.giver, omega arith, omega arith)

pub returns : goal.returns
returns g c =
    let low = c.get.ensures.within.0 in let is = c.from-capacity.ensures in
    let none = (fresh c.in_ok-room.room.places c.from-capacity.result 0 0 c.in_ok-room.ensures.places refl refl (omega arith)).1 in
    let size = c.from-capacity.ensures ∙ c.get.ensures.size in record { empty = λ i. batch (none i) (size i) }
