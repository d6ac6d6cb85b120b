use Rattle.std.proofs.Common.{◌≡◌, ◌<◌, ◌+◌, ℕ, List, [], ◌∷◌, ◌++◌, length, map, take, sym, ap, ◌∙◌, arith}
use Rattle.std.proofs.lemmas.List.{map-append, take_more}
use Rattle.qs_objects.specs.Sums.{total}
use Rattle.qs_syncset.specs.audit.Codes.{BlockCode, no_code}
use Rattle.qs_client.specs.run.BlockSizes.{room_for}
use Rattle.qs_client.proofs.run.begin.empty_traces.Goals as goal

total_push : (ns : List ℕ) (n : ℕ) → total (ns ++ n ∷ []) ≡ total ns + n
total_push [] n = omega arith
total_push (m ∷ ns) n = let rest = total_push ns n in omega (arith, rest)

pub loop-block-preserved : goal.loop-block-preserved
loop-block-preserved c =
    let blocks : List BlockCode = c.args.code.now.blocks in
    let inside : c.loop-block.block < length blocks = omega arith in
    let pushed = c.push_reserved.ensures.items in
    let sum = ap total pushed ∙ total_push c.loop-block.rooms.items c.room_of-requests.result in
    record {
      rooms = pushed
          ∙ (λ i. c.loop-block.invariant.rooms i ++ c.room_of-requests.ensures.value i ∷ [])
          ∙ sym (ap (map room_for) (take_more blocks c.loop-block.block no_code inside) ∙ map-append room_for (take c.loop-block.block blocks) _);
      count = omega (arith, c.push_reserved.ensures.len, c.loop-block.invariant.count);
      sum = omega (arith, sum, c.loop-block.invariant.sum);
      few = omega (arith, c.loop-block.invariant.few, c.room_of-requests.ensures.few);
      within = omega (arith, c.push_reserved.ensures.capacity, c.loop-block.invariant.within);
    }
