use Rattle.std.proofs.Common.{◌≡◌, ◌<◌, ℕ, suc, ◌+◌, List, [], ◌++◌, length, get_or, set, replicate, sym, ap, ◌∙◌, arith}
use Rattle.std.proofs.lemmas.List.{get_or-map, length-map}
use Rattle.qs_syncset.specs.audit.Codes.{BlockCode, no_code}
use Rattle.qs_sync_counts.specs.audit.SyncRows.{no_syncs}
use Rattle.qs_sync_counts.specs.SyncRows.{CountsState, begun_rows}
use Rattle.qs_sync_counts.specs.declared.sync_counts.SyncCount.{SyncCount}
use Rattle.qs_sync_counts.proofs.CountRows.{begun_all, begun_beyond, begun_next, begun_none, length_begun}
use Rattle.qs_client.proofs.ReservedLists.{few_objects}
use Rattle.qs_client.proofs.run.CodeBounds.{few_blocks}
use Rattle.qs_client.specs.audit.ClientModel.{lists_of_code}
use Rattle.qs_client.proofs.mind.fresh_counts.Goals as goal

-- a block's list is the one of that number
listed : (blocks : List BlockCode) (n : ℕ) → n < length blocks → get_or (lists_of_code blocks) n [] ≡ (get_or blocks n no_code).reserved
listed blocks n inside = get_or-map (λ (b : BlockCode). b.reserved) blocks n no_code [] inside

many : (blocks : List BlockCode) → length (lists_of_code blocks) ≡ length blocks
many blocks = length-map blocks (λ (b : BlockCode). b.reserved)

pub overflow_mul-blocks : goal.overflow_mul-blocks
overflow_mul-blocks c =
    let blocks = few_blocks c.args.code.now c.keeps_code.ensures.code in
    omega (arith, c.blocks-blocks.ensures.value, blocks)

pub loop-block-init : goal.loop-block-init
loop-block-init c =
    let lists = lists_of_code c.args.code.now.blocks in
    let room = ap (λ (s : CountsState). s.room) c.in_ok-counts.ensures.fresh in
    record {
      rows = ap (λ (s : CountsState). s.rows) c.in_ok-counts.ensures.fresh
          ∙ (ap (λ n. replicate n []) (c.blocks-blocks.ensures.value ∙ sym (many c.args.code.now.blocks)) ∙ sym (begun_none lists));
      room = omega (arith, room, c.blocks-blocks.ensures.value);
    }

pub push_list-requires : goal.push_list-requires
push_list-requires c =
    let n = c.loop-block.block in
    let lists = lists_of_code c.args.code.now.blocks in
    let inside : n < length c.args.code.now.blocks = omega (arith, c.loop-block-test.true, c.blocks-blocks.ensures.value) in
    let rows = ap (λ (rs : List (List SyncCount)). length rs) c.loop-block.invariant.rows in
    let begun = length_begun n lists in
    let long = many c.args.code.now.blocks in
    let few = few_objects c.args.code.now n c.keeps_code.ensures.code inside in
    let same = ap (λ (hs : List ℕ). length hs) c.reserved.ensures.value in
    record {
      block = omega (arith, rows, begun, long, inside);
      last = λ j after. ap (λ (rs : List (List SyncCount)). get_or rs j []) c.loop-block.invariant.rows ∙ begun_beyond n lists j (omega (arith, after));
      room = omega (arith, c.loop-block.invariant.room, inside, few, same);
    }

pub loop-block-preserved : goal.loop-block-preserved
loop-block-preserved c =
    let n = c.loop-block.block in
    let lists = lists_of_code c.args.code.now.blocks in
    let inside : n < length c.args.code.now.blocks = omega (arith, c.loop-block-test.true, c.blocks-blocks.ensures.value) in
    let long = many c.args.code.now.blocks in
    let few = few_objects c.args.code.now n c.keeps_code.ensures.code inside in
    let same = ap (λ (hs : List ℕ). length hs) c.reserved.ensures.value in
    let list : c.reserved.result.now ≡ get_or lists n [] = c.reserved.ensures.value ∙ sym (listed c.args.code.now.blocks n inside) in
    let room = ap (λ (s : CountsState). s.room) c.push_list.ensures.pushed in
    let on : suc n ≡ n + 1 = omega arith in
    record {
      rows = ap (λ (s : CountsState). s.rows) c.push_list.ensures.pushed
          ∙ ((λ i. set (c.loop-block.invariant.rows i) n (get_or (c.loop-block.invariant.rows i) n [] ++ no_syncs (list i)))
          ∙ (begun_next n lists (omega (arith, inside, long)) ∙ ap (λ m. begun_rows m lists) on));
      room = omega (arith, room, c.loop-block.invariant.room, few, same);
    }

pub returns-clause-fresh : goal.returns-clause-fresh
returns-clause-fresh c =
    let lists = lists_of_code c.args.code.now.blocks in
    let long = many c.args.code.now.blocks in
    let whole : c.loop-block.block ≡ length lists =
    omega (arith, c.loop-block-test.false, c.loop-block.auto.block-end, c.blocks-blocks.ensures.value, long) in
    c.loop-block.invariant.rows ∙ (ap (λ n. begun_rows n lists) whole ∙ begun_all lists)
