use Rattle.std.proofs.Common.{◌≡◌, ◌<◌, ℕ, suc, ◌+◌, List, [], ◌++◌, length, get_or, set, replicate, sym, ap, ◌∙◌, arith}
use Rattle.std.proofs.lemmas.List.{get_or-map, length-map}
use Rattle.qs_program.specs.audit.Program.{BlockShape, ProgramShape, block_at, blocks_of, client_at, no_block}
use Rattle.qs_sync_counts.specs.audit.SyncRows.{no_syncs}
use Rattle.qs_sync_counts.specs.SyncRows.{CountsState, begun_rows}
use Rattle.qs_sync_counts.specs.declared.sync_counts.SyncCount.{SyncCount}
use Rattle.qs_sync_counts.proofs.CountRows.{begun_all, begun_beyond, begun_next, begun_none, length_begun}
use Rattle.qs_syncset.proofs.ShortLists.{few_reserved}
use Rattle.qs_plain.specs.client.PreparedBlock.{reserved_lists}
use Rattle.qs_plain.proofs.client.client.fresh_query_counts.Goals as goal

-- a block's list is the one of that number
listed : (p : ProgramShape) (c n : ℕ) → n < blocks_of p c → get_or (reserved_lists p c) n [] ≡ (block_at p c n).reserved
listed p c n inside = get_or-map (λ (b : BlockShape). b.reserved) (client_at p c).blocks n no_block [] inside

many : (p : ProgramShape) (c : ℕ) → length (reserved_lists p c) ≡ blocks_of p c
many p c = length-map (client_at p c).blocks (λ (b : BlockShape). b.reserved)

pub loop-index-init : goal.loop-index-init
loop-index-init c =
    let p = c.args.program.now in
    let lists = reserved_lists p c.args.number in
    let room = ap (λ (s : CountsState). s.room) c.in_ok-counts.ensures.fresh in
    record {
      rows = ap (λ (s : CountsState). s.rows) c.in_ok-counts.ensures.fresh
          ∙ (ap (λ n. replicate n []) (c.blocks_of-count.ensures.value ∙ sym (many p c.args.number)) ∙ sym (begun_none lists));
      room = omega (arith, room, c.blocks_of-count.ensures.value);
    }

pub push_list-requires : goal.push_list-requires
push_list-requires c =
    let p = c.args.program.now in
    let n = c.loop-index.index in
    let lists = reserved_lists p c.args.number in
    let inside : n < blocks_of p c.args.number = omega (arith, c.loop-index-test.true, c.blocks_of-count.ensures.value) in
    let rows = ap (λ (rs : List (List SyncCount)). length rs) c.loop-index.invariant.rows in
    let begun = length_begun n lists in
    let long = many p c.args.number in
    let few = few_reserved p c.args.number n c.keeps_sound.ensures.sound c.requires inside in
    let same = ap (λ (hs : List ℕ). length hs) (c.reserved.ensures.value ∙ ap (λ (b : BlockShape). b.reserved) c.block-block.ensures.value) in
    record {
      block = omega (arith, rows, begun, long, inside);
      last = λ j after. ap (λ (rs : List (List SyncCount)). get_or rs j []) c.loop-index.invariant.rows ∙ begun_beyond n lists j (omega (arith, after));
      room = omega (arith, c.loop-index.invariant.room, inside, few, same);
    }

pub loop-index-preserved : goal.loop-index-preserved
loop-index-preserved c =
    let p = c.args.program.now in
    let n = c.loop-index.index in
    let lists = reserved_lists p c.args.number in
    let inside : n < blocks_of p c.args.number = omega (arith, c.loop-index-test.true, c.blocks_of-count.ensures.value) in
    let lists = reserved_lists p c.args.number in
    let long = many p c.args.number in
    let few = few_reserved p c.args.number n c.keeps_sound.ensures.sound c.requires inside in
    let its : c.reserved.result.now ≡ (block_at p c.args.number n).reserved = c.reserved.ensures.value ∙ ap (λ (b : BlockShape). b.reserved) c.block-block.ensures.value in
    let same = ap (λ (hs : List ℕ). length hs) its in
    let list : c.reserved.result.now ≡ get_or lists n [] = its ∙ sym (listed p c.args.number n inside) in
    let room = ap (λ (s : CountsState). s.room) c.push_list.ensures.pushed in
    let on : suc n ≡ n + 1 = omega arith in
    let place : c.from.result ≡ n = c.from.ensures in
    record {
      rows = ap (λ (s : CountsState). s.rows) c.push_list.ensures.pushed
          ∙ ((λ i. set (c.loop-index.invariant.rows i) (place i) (get_or (c.loop-index.invariant.rows i) (place i) [] ++ no_syncs (list i)))
          ∙ (begun_next n lists (omega (arith, inside, long)) ∙ ap (λ m. begun_rows m lists) on));
      room = omega (arith, room, c.loop-index.invariant.room, few, same);
    }

pub returns-clause-fresh : goal.returns-clause-fresh
returns-clause-fresh c =
    let lists = reserved_lists c.args.program.now c.args.number in
    let long = many c.args.program.now c.args.number in
    let whole : c.loop-index.index ≡ length lists =
    omega (arith, c.loop-index-test.false, c.loop-index.auto.index-end, c.blocks_of-count.ensures.value, long) in
    c.loop-index.invariant.rows ∙ (ap (λ n. begun_rows n lists) whole ∙ begun_all lists)
