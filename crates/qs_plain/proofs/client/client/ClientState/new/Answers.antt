use Rattle.std.proofs.Common.{◌≡◌, ◌<◌, ◌≤◌, ℕ, List, [], ap, drop, get_or, length, map, refl, sym, take, ◌∙◌, subst, arith, below_more, vec_capacity}
use Rattle.qs_played.proofs.Names.{length-append, BlockShape, block_at, blocks_of, Statements, zeros, fresh_rows}
use Rattle.qs_played.proofs.Lists.{each_more}
use Rattle.qs_plain.proofs.Names.{rest, places_of, AreQueues, reserved_lists, prepared_of, rooms_of, AreStored, IsClient, client_from, Stack, QueueState, empty_trace}
use Rattle.qs_plain.specs.declared.client.stage.Stage.TheVariants as stages
use Rattle.qs_plain.proofs.client.StoredClients.{client_fresh, many_prepared, stored_fresh}
use Rattle.qs_plain.proofs.client.client.ClientState.new.Goals as goal

pub loop-index-preserved : goal.loop-index-preserved
loop-index-preserved c =
    let p = c.args.program.now in
    let body = c.body.ensures.value ∙ ap (λ (b : BlockShape). b.body) c.block.ensures.value in
    let grown = c.in_ok-grow.ensures.ok in
    let here : places_of (rest (block_at p c.args.number c.loop-index.index).body) ≤ vec_capacity c.grow.new.frames =
    subst (λ (s : Statements). places_of (rest s) ≤ vec_capacity c.grow.new.frames) body (omega (arith, grown.room)) in
    record {
      frames = grown.items ∙ c.loop-index.invariant.frames;
      fits = below_more _ c.loop-index.index (λ j lt. omega (arith, c.loop-index.invariant.fits j lt, grown.larger)) here;
      many = rw c.in_ok-push_back.ensures.items (simp length-append (omega (arith, c.loop-index.invariant.many)));
      stocked = rw c.in_ok-push_back.ensures.items
          (each_more (λ j. AreQueues c.args.number j (block_at p c.args.number j)) c.loop-index.prepared.items _ c.loop-index.index c.loop-index.invariant.many c.loop-index.invariant.stocked c.in_ok-prepare.ensures.ready);
    }

pub invariant_of-result : goal.invariant_of-result
invariant_of-result c =
    let p = c.args.program.now in
    let number = c.args.number in
    let sound = c.keeps_sound.ensures.sound in
    let queues = c.loop-index.prepared.items in
    let none : c.in_ok-with_capacity.field-0.items ≡ [] = c.in_ok-with_capacity.ensures.items in
    let empty : c.over.result.frames ≡ [] = ap (λ (s : Stack). s.frames) c.over.ensures.empty in
    let depth : c.over.result.room ≡ vec_capacity c.loop-index.frames = ap (λ (s : Stack). s.room) c.over.ensures.empty in
    let traces = c.in_ok-fresh_traces.ensures.fresh in
    let counts = c.in_ok-fresh_query_counts.ensures.fresh in
    let whole : c.loop-index.index ≡ blocks_of p number = omega (arith, c.loop-index-test.false, c.loop-index.auto.index-end, c.blocks_of-count.ensures.value) in
    let many : length queues ≡ blocks_of p number = c.loop-index.invariant.many ∙ whole in
    let fits : (j : ℕ) → j < blocks_of p number → places_of (rest (block_at p number j).body) ≤ c.over.result.room =
    λ j lt. let fit = c.loop-index.invariant.fits j (omega (arith, lt, whole)) in omega (arith, fit, depth) in
    let each : (j : ℕ) (q : List (ℕ × QueueState)) → j < blocks_of p number → AreQueues number j (block_at p number j) (get_or queues j q) =
    λ j q lt. c.loop-index.invariant.stocked j q (omega (arith, lt, whole)) in
    let kept = client_fresh p number sound c.requires zeros c.over.result.room queues many fits each in
    let stored = stored_fresh p number sound c.requires queues many in (
      subst IsClient (sym (λ i. client_from p number stages.Out zeros (empty i) c.over.result.room (none i) (traces i) (counts i) queues)) kept,
      subst (λ n. AreStored n c.in_ok-fresh_traces.field-0 c.in_ok-fresh_query_counts.field-0.rows (length queues)) (sym (ap length none))
          (subst (λ ts. AreStored 0 ts c.in_ok-fresh_query_counts.field-0.rows (length queues)) (sym traces) (subst (λ cs. AreStored 0 (map empty_trace (rooms_of p number)) cs (length queues)) (sym counts) stored)),
      omega (arith, c.in_ok-with_capacity.ensures.len, c.in_ok-with_capacity.ensures.capacity, c.blocks_of-count.ensures.value, many, c.loop-index.prepared.ok),
    )

pub returns-clause-fresh : goal.returns-clause-fresh
returns-clause-fresh c =
    let p = c.args.program.now in
    let number = c.args.number in
    let queues = c.loop-index.prepared.items in
    let none : c.in_ok-with_capacity.field-0.items ≡ [] = c.in_ok-with_capacity.ensures.items in
    let whole : c.loop-index.index ≡ blocks_of p number = omega (arith, c.loop-index-test.false, c.loop-index.auto.index-end, c.blocks_of-count.ensures.value) in
    let many : length queues ≡ blocks_of p number = c.loop-index.invariant.many ∙ whole in
    let stored = stored_fresh p number c.keeps_sound.ensures.sound c.requires queues many in
    let traces = c.in_ok-fresh_traces.ensures.fresh in
    let counts = c.in_ok-fresh_query_counts.ensures.fresh in
    let prepared = (λ i. length (prepared_of (drop (length (none i)) (traces i)) (drop (length (none i)) (counts i)) queues)) ∙ (many_prepared 0 (map empty_trace (rooms_of p number)) (fresh_rows (reserved_lists p number)) queues stored ∙ many) in
    record {
      program = refl;
      number = refl;
      stage = refl;
      locals = refl;
      entries = none;
      traces = ap (λ es. take (length es) c.in_ok-fresh_traces.field-0) none;
      counts = ap (λ es. take (length es) c.in_ok-fresh_query_counts.field-0.rows) none;
      prepared = prepared;
    }
