use Rattle.std.proofs.Common.{◌≡◌, ◌-◌, List, [], ◌∷◌, ◌++◌, append-nil, length, get_or, get_or-set_other, length-set, set, take, sym, ap, ◌∙◌, arith}
use Rattle.std.proofs.lemmas.List.{get_or_default, set-get_or, take_all}
use Rattle.qs_sync_counts.specs.audit.SyncRows.{no_syncs, sync_count}
use Rattle.qs_sync_counts.specs.SyncRows.{CountsState, counts_state}
use Rattle.qs_sync_counts.specs.declared.sync_counts.SyncCount.{SyncCount}
use Rattle.qs_sync_counts.proofs.CountRows.{list_push}
use Rattle.qs_sync_counts.proofs.sync_counts.SyncCounts.push_list.Goals as goal

pub loop-object-init : goal.loop-object-init
loop-object-init c =
    let rows = c.args.self.now.rows in
    record {
      rows = sym (ap (set rows c.args.block) (append-nil (get_or rows c.args.block [])) ∙ set-get_or rows c.args.block []);
      room = omega arith;
    }

pub push-requires : goal.push-requires
push-requires c =
    let rows = c.args.self.now.rows in
    let k = c.args.block in
    let row : List SyncCount = get_or rows k [] ++ no_syncs (take c.loop-object.object-index c.args.list.now) in
    record {
      block = omega (arith, ap (λ (rs : List (List SyncCount)). length rs) c.loop-object.invariant.rows, length-set rows k row, c.requires.block);
      last = λ j after.
          ap (λ (rs : List (List SyncCount)). get_or rs j []) c.loop-object.invariant.rows
          ∙ (get_or-set_other rows k j row [] (λ e. omega (arith, e, after)) ∙ c.requires.last j after);
      room = omega (arith, c.loop-object.invariant.room, c.requires.room, c.loop-object-test.true);
    }

pub loop-object-preserved : goal.loop-object-preserved
loop-object-preserved c =
    let rows = c.args.self.now.rows in
    let k = c.args.block in
    let n = c.loop-object.object-index in
    let now = c.loop-object.self.rows in
    let room = ap (λ (s : CountsState). s.room) c.push.ensures.pushed in
    record {
      rows = ap (λ (s : CountsState). s.rows) c.push.ensures.pushed
          ∙ (ap (λ o. set now k (get_or now k [] ++ sync_count o 0 ∷ [])) (get_or_default c.args.list.now n _ 0 c.loop-object-test.true)
          ∙ list_push rows k n c.args.list.now now c.requires.block c.loop-object-test.true c.loop-object.invariant.rows);
      room = omega (arith, room, c.loop-object.invariant.room, c.requires.room, c.loop-object-test.true);
    }

pub returns : goal.returns
returns c =
    let rows = c.args.self.now.rows in
    let k = c.args.block in
    let n = c.loop-object.object-index in
    let all : take n c.args.list.now ≡ c.args.list.now = take_all n c.args.list.now (omega (arith, c.loop-object-test.false)) in
    let whole : n ≡ length c.args.list.now = omega (arith, c.loop-object-test.false, c.loop-object.auto.object-index-end) in
    let left : c.loop-object.self.room ≡ c.args.self.now.room - length c.args.list.now = omega (arith, c.loop-object.invariant.room, whole) in
    record {
      pushed = (λ i. counts_state (c.loop-object.invariant.rows i) (left i))
          ∙ ap (λ hs. counts_state (set rows k (get_or rows k [] ++ no_syncs hs)) (c.args.self.now.room - length c.args.list.now)) all;
    }
