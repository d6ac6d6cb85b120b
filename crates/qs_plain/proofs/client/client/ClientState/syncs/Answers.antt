use Rattle.std.proofs.Common.{◌≡◌, ◌<◌, ◌≤◌, ◌+◌, ℕ, [], List, ap, get_or, get_or-take, length, length-take-le, sum_by, sym, ◌∙◌, take, arith}
use Rattle.qs_played.proofs.Names.{get_or-map, length-map, take_more, sum_by_push, Event, queries_in}
use Rattle.qs_plain.proofs.Names.{TraceState, events_of, trace_at, ClientState}
use Rattle.qs_plain.proofs.client.client.ClientState.syncs.Goals as goal

-- the events of a block that was begun, among those of all
events_begun : (n k : ℕ) (ts : List TraceState) → k < n → n ≤ length ts → get_or (events_of (take n ts)) k [] ≡ (trace_at ts k).events
events_begun n k ts inside long = grind (arith, length-take-le, get_or-map, take, get_or-take)

pub loop-block-preserved : goal.loop-block-preserved
loop-block-preserved c =
    let s = c.self.inside in
    let n = length s.entries.items in
    let k = c.loop-block.block in
    let shown : List (List Event) = events_of c.args.self.now.traces in
    let same : shown ≡ events_of (take n s.traces) = sym (ap (λ (d : ClientState). events_of d.traces) c.self.view_is) in
    let all = c.self.invariant.1.all_traces in
    let inside : k < n = omega (arith, c.loop-block-test.true, c.len-block-end.ensures, s.entries.ok.0) in
    let long : length shown ≡ n = ap length same ∙ (length-map (take n s.traces) (λ (t : TraceState). t.events) ∙ length-take-le n s.traces (omega (arith, all))) in
    let here : get_or shown k [] ≡ c.of.result.now =
    ap (λ (ess : List (List Event)). get_or ess k []) same ∙ (events_begun n k s.traces inside (omega (arith, all)) ∙ sym c.of.ensures.events) in
    let sum : sum_by queries_in (take (k + 1) shown) ≡ sum_by queries_in (take k shown) + queries_in c.of.result.now =
    ap (sum_by queries_in) (take_more shown k [] (omega (arith, inside, long))) ∙ (sum_by_push queries_in (take k shown) (get_or shown k []) ∙ ap (λ es. sum_by queries_in (take k shown) + queries_in es) here) in
    record {
      value = omega (arith, c.loop-block.invariant.value, c.queries-syncs.ensures.value, sum);
      limit = omega (arith, c.loop-block.invariant.limit, c.queries-syncs.ensures.limit);
    }
