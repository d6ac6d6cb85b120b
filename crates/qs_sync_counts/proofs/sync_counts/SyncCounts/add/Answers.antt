use Rattle.std.proofs.Common.{◌≡◌, ◌<◌, ℕ, suc, ◌+◌, List, [], length, get_or, set, refl, sym, ap, ◌∙◌, subst, arith}
use Rattle.std.proofs.lemmas.List.{get_or-set_same, length-set, set-get_or, set-set}
use Rattle.qs_objects.proofs.Elements.{AllByRecursion-get_or}
use Rattle.qs_sync_counts.specs.audit.SyncRows.{count_of, one_more, sync_count}
use Rattle.qs_sync_counts.specs.SyncRows.{CountsState, counts_state, greatest_count}
use Rattle.qs_sync_counts.specs.declared.sync_counts.SyncCount.{SyncCount}
use Rattle.qs_sync_counts.proofs.CountRows.{changed_front, front_all, front_at, front_length, front_set, have_at, length_paired, length_rows, row_at}
use Rattle.qs_sync_counts.proofs.sync_counts.SyncCounts.add.Goals as goal

pub of-place-end-requires : goal.of-place-end-requires
of-place-end-requires c =
    let given = subst (λ (s : CountsState). c.args.block < length s.rows) (sym c.self.view_is) c.requires.block in
    record { row = omega (arith, length_rows c.self.inside.objects.rows c.self.inside.counts.rows c.self.invariant.each, given) }

pub loop-place-init : goal.loop-place-init
loop-place-init c =
    let oss = c.self.inside.objects.rows in
    let css = c.self.inside.counts.rows in
    let objects = ap (λ (xs : List ℕ). length xs) c.of-place-end.ensures.value in
    let pairs = length_paired (get_or oss c.args.block []) (get_or css c.args.block []) (have_at oss css c.args.block c.self.invariant.each) in
    let now = ap (λ (s : CountsState). length (get_or s.rows c.args.block [])) c.self.view_is in
    record {
      rows = sym (set-get_or c.args.self.now.rows c.args.block []);
      room = refl;
      end = omega (arith, objects, pairs, ap (λ (xs : List SyncCount). length xs) (row_at oss css c.args.block c.self.invariant.each), now);
    }

pub add_at-requires : goal.add_at-requires
add_at-requires c =
    let rows = c.args.self.now.rows in
    let row : List SyncCount = get_or rows c.args.block [] in
    let k = c.loop-place.place in
    let inside : k < length row = omega (arith, c.loop-place-test.true, c.loop-place.invariant.end) in
    let now : get_or c.loop-place.self.rows c.args.block [] ≡ changed_front (one_more c.args.object) k row =
    ap (λ (rs : List (List SyncCount)). get_or rs c.args.block []) c.loop-place.invariant.rows
    ∙ get_or-set_same rows c.args.block (changed_front (one_more c.args.object) k row) [] c.requires.block in
    let many = ap (λ (rs : List (List SyncCount)). length rs) c.loop-place.invariant.rows in
    let long = ap (λ (xs : List SyncCount). length xs) now in
    let here : count_of (get_or (get_or c.loop-place.self.rows c.args.block []) k (sync_count 0 0)) ≡ count_of (get_or row k (sync_count 0 0)) =
    ap (λ (xs : List SyncCount). count_of (get_or xs k (sync_count 0 0))) now ∙ ap count_of (front_at (one_more c.args.object) row k (sync_count 0 0)) in
    let few : count_of (get_or row k (sync_count 0 0)) < greatest_count =
    AllByRecursion-get_or (λ (x : SyncCount). x.count < greatest_count) row k (sync_count 0 0) c.requires.few inside in
    record {
      block = omega (arith, many, length-set rows c.args.block (changed_front (one_more c.args.object) k row), c.requires.block);
      place = omega (arith, inside, long, front_length (one_more c.args.object) row k);
      few = omega (arith, here, few);
    }

pub loop-place-preserved : goal.loop-place-preserved
loop-place-preserved c =
    let rows = c.args.self.now.rows in
    let row : List SyncCount = get_or rows c.args.block [] in
    let k = c.loop-place.place in
    let f = one_more c.args.object in
    let inside : k < length row = omega (arith, c.loop-place-test.true, c.loop-place.invariant.end) in
    let next : k + 1 ≡ suc k = omega arith in
    let now : get_or c.loop-place.self.rows c.args.block [] ≡ changed_front f k row =
    ap (λ (rs : List (List SyncCount)). get_or rs c.args.block []) c.loop-place.invariant.rows
    ∙ get_or-set_same rows c.args.block (changed_front f k row) [] c.requires.block in
    record {
      rows = ap (λ (s : CountsState). s.rows) c.add_at.ensures.added
          ∙ ((λ i. set (c.loop-place.invariant.rows i) c.args.block (set (now i) k (f (get_or (now i) k (sync_count 0 0)))))
          ∙ (set-set rows c.args.block (changed_front f k row) (set (changed_front f k row) k (f (get_or (changed_front f k row) k (sync_count 0 0))))
          ∙ (ap (set rows c.args.block) (front_set f row k (sync_count 0 0) inside)
          ∙ sym (ap (λ m. set rows c.args.block (changed_front f m row)) next))));
      room = ap (λ (s : CountsState). s.room) c.add_at.ensures.added ∙ c.loop-place.invariant.room;
      end = c.loop-place.invariant.end;
    }

pub returns : goal.returns
returns c =
    let rows = c.args.self.now.rows in
    let row : List SyncCount = get_or rows c.args.block [] in
    let f = one_more c.args.object in
    let whole : c.loop-place.place ≡ length row = omega (arith, c.loop-place-test.false, c.loop-place.invariant.end, c.loop-place.auto.place-end) in
    record {
      added = (λ i. counts_state (c.loop-place.invariant.rows i) (c.loop-place.invariant.room i))
          ∙ ap (λ xs. counts_state (set rows c.args.block xs) c.args.self.now.room) (ap (λ m. changed_front f m row) whole ∙ front_all f row);
    }
