use Rattle.std.proofs.Common.{◌≡◌, ◌<◌, ◌+◌, ℕ, List, [], ◌∷◌, ◌++◌, get_or, length, sym, ap, ◌∙◌, arith}
use Rattle.qs_played.proofs.Names.{get_or-map, length-map, take_more, block_load-whole}
use Rattle.qs_objects.specs.Sums.{total}
use Rattle.qs_program.specs.audit.Program.{block_at, block_load, client_at, no_block}
use Rattle.qs_plain.specs.client.PreparedBlock.{rooms_of}
use Rattle.qs_plain.proofs.client.client.fresh_traces.Goals as goal

total_push : (ns : List ℕ) (n : ℕ) → total (ns ++ n ∷ []) ≡ total ns + n
total_push [] n = omega arith
total_push (m ∷ ns) n = let rest = total_push ns n in omega (arith, rest)

pub loop-index-preserved : goal.loop-index-preserved
loop-index-preserved c =
    let blocks = (client_at c.args.program.now c.args.number).blocks in
    let n = c.loop-index.index in
    let inside : n < length blocks = omega (arith, c.loop-index-test.true, c.blocks_of-count.ensures.value) in
    let pushed = c.push_reserved.ensures.items in
    let whole = block_load-whole c.args.program.now c.args.number n c.requires inside in
    let load : c.block_load-requests.result ≡ block_load (block_at c.args.program.now c.args.number n) =
    omega (arith, c.block_load-requests.ensures.capped, ap block_load c.block.ensures.value, whole, c.keeps_sound.ensures.sound.load) in
    let sum = ap total pushed ∙ total_push c.loop-index.rooms.items c.block_load-requests.result in
    let here : get_or (rooms_of c.args.program.now c.args.number) n 0 ≡ block_load (get_or blocks n no_block) = get_or-map block_load blocks n no_block 0 inside in
    let long : length (rooms_of c.args.program.now c.args.number) ≡ length blocks = length-map blocks block_load in
    record {
      rooms = pushed
          ∙ ((λ i. c.loop-index.invariant.rooms i ++ (load ∙ sym here) i ∷ [])
          ∙ sym (take_more (rooms_of c.args.program.now c.args.number) n 0 (omega (arith, inside, long))));
      count = omega (arith, c.push_reserved.ensures.len, c.loop-index.invariant.count);
      sum = omega (arith, sum, c.loop-index.invariant.sum);
      few = omega (arith, c.loop-index.invariant.few, load, whole, c.keeps_sound.ensures.sound.load);
      within = omega (arith, c.push_reserved.ensures.capacity, c.loop-index.invariant.within);
    }
