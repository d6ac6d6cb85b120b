use Rattle.std.proofs.Common.{◌≡◌, ◌<◌, ◌-◌, [], None, ap, get_or, get_or-take, length, refl, set, sym, subst, take, ◌∙◌, arith, true}
use Rattle.qs_plain.proofs.Names.{TraceState, noted_at, trace_at, few_in, AreStored, ClientState, IsClient, client_from, current_block, AsksNext, after_moves, no_trace, noted_in}
use Rattle.qs_played.proofs.Names.{Event, is_in, request_of, with_sync, AreFew, CountsState, event}
use Rattle.qs_plain.specs.declared.client.client.Asked.TheVariants as asked
use Rattle.qs_plain.specs.declared.client.stage.Stage.TheVariants as stages
use Rattle.qs_objects.proofs.Arities.{arity_small}
use Rattle.qs_plain.proofs.client.ClientPreserved.{within_of, commanded, queried, ended, can_note}
use Rattle.qs_plain.proofs.client.StoredClients.{empty_later, last_begun, many_prepared, moved_counted, moved_noted, stored_counted, stored_noted}
use Rattle.qs_plain.proofs.client.client.ClientState.ask.Goals as goal

pub request-requires : goal.request-requires
request-requires c =
    let stands = ap (λ (d : ClientState). d.stage) c.self.view_is ∙ c.requires in
    let within = within_of c.self.invariant.0 stands in
    let (sound, call) = c.in-Command.ensures.sound _ _ within.sound in
    omega (arith, call.arity, arity_small c.in-Command.call.now.op)

pub note-requires : goal.note-requires
note-requires c =
    let s = c.self.inside in
    let n = length s.entries.items in
    let stands = ap (λ (d : ClientState). d.stage) c.self.view_is ∙ c.requires in
    let within = within_of c.self.invariant.0 stands in
    let stored = c.self.invariant.1 in
    let all = stored.all_traces in
    let some = within.some in
    let (sound, call) = c.in-Command.ensures.sound _ _ within.sound in
    let same : c.len.result ≡ n = c.len.ensures ∙ s.entries.ok.0 in
    let many = many_prepared n s.traces s.counts.rows s.prepared.items stored in
    let room = can_note c.self.invariant.0 c.settle.new.self.frames c.in-Command.call.now.object stands call.reserves c.in-Command.ensures.load in
    record {
      block = omega (arith, same, some, all);
      last = λ j after. empty_later n s.traces s.counts.rows s.prepared.items stored some (λ i x below. (c.self.invariant.0.prepared i x (omega (arith, below, many))).stocked.trace) j (omega (arith, same, after));
      room = subst (λ m. 0 < (trace_at s.traces (m - 1)).room) (sym same) (subst (λ (t : TraceState). 0 < t.room) (last_begun n s.traces some (omega (arith, all))) room);
    }

pub invariant_of-self : goal.invariant_of-self
invariant_of-self c =
    let s = c.self.inside in
    let n = length s.entries.items in
    let stands = ap (λ (d : ClientState). d.stage) c.self.view_is ∙ c.requires in
    let kept = c.self.invariant.0 in
    let stored = c.self.invariant.1 in
    let within = within_of kept stands in
    let all = stored.all_traces in
    let some = within.some in
    let (sound, call) = c.in-Command.ensures.sound _ _ within.sound in
    let same : c.len.result ≡ n = c.len.ensures ∙ s.entries.ok.0 in
    let e : Event = record { request = c.request.result; reply = None } in
    let noted : c.note.new.self ≡ noted_at s.traces (n - 1) e = c.note.ensures.noted ∙ ap (λ m. noted_at s.traces (m - 1) e) same in
    let room = can_note kept c.settle.new.self.frames c.in-Command.call.now.object stands call.reserves c.in-Command.ensures.load in
    let last : 0 < (trace_at s.traces (n - 1)).room = subst (λ (t : TraceState). 0 < t.room) (last_begun n s.traces some (omega (arith, all))) room in (
      subst IsClient
          (sym (moved_noted s.program.now s.number s.stage s.locals s.frames.frames s.frames.room s.entries.items s.traces s.counts.rows s.prepared.items stored some s.stage c.settle.new.locals c.settle.new.self.frames c.settle.new.self.room c.note.new.self e c.settle.ensures.room noted))
          (commanded kept c.settle.new.locals c.settle.new.self.frames s.frames.room _ e c.in-Command.call.now.object stands refl refl sound call.reserves c.in-Command.ensures.load),
      subst (λ ts. AreStored n ts s.counts.rows (length s.prepared.items)) (sym noted) (stored_noted n s.traces s.counts.rows (length s.prepared.items) e stored some last),
      c.self.invariant.2,
    )

pub add-requires : goal.add-requires
add-requires c =
    let s = c.self.inside in
    let n = length s.entries.items in
    let stands = ap (λ (d : ClientState). d.stage) c.self.view_is ∙ c.requires in
    let within = within_of c.self.invariant.0 stands in
    let stored = c.self.invariant.1 in
    let all = stored.all_counts in
    let some = within.some in
    let same : c.len-in-Query.result ≡ n = c.len-in-Query.ensures ∙ s.entries.ok.0 in
    let trace = ap (λ (t : TraceState). length t.events) (get_or-take n s.traces (n - 1) no_trace (omega (arith, some))) in
    let size = stored.sizes (n - 1) in
    let few = few_in _ 4294967295 (get_or (take n s.counts.rows) (n - 1) []) (omega (arith, trace, size)) within.few in
    record {
      block = omega (arith, same, some, all);
      few = subst (λ m. AreFew 4294967295 (get_or s.counts.rows (m - 1) [])) (sym same) (subst (AreFew 4294967295) (get_or-take n s.counts.rows (n - 1) [] (omega (arith, some))) few);
    }

pub invariant_of-self-in-Query : goal.invariant_of-self-in-Query
invariant_of-self-in-Query c =
    let s = c.self.inside in
    let n = length s.entries.items in
    let stands = ap (λ (d : ClientState). d.stage) c.self.view_is ∙ c.requires in
    let kept = c.self.invariant.0 in
    let stored = c.self.invariant.1 in
    let within = within_of kept stands in
    let some = within.some in
    let (sound, call) = c.in-Query.ensures.sound _ _ within.sound in
    let same : c.len-in-Query.result ≡ n = c.len-in-Query.ensures ∙ s.entries.ok.0 in
    let h = c.in-Query.call.now.object in
    let added = ap (λ (t : CountsState). t.rows) c.add.ensures.added in
    let counted : c.add.new.self.rows ≡ set s.counts.rows (n - 1) (with_sync h (get_or s.counts.rows (n - 1) [])) =
    added ∙ (λ i. set s.counts.rows (same i - 1) (with_sync h (get_or s.counts.rows (same i - 1) []))) in (
      subst IsClient
          (sym (moved_counted s.program.now s.number s.stage s.locals s.frames.frames s.frames.room s.entries.items s.traces s.counts.rows s.prepared.items stored some (stages.Waiting c.in-Query.variable) c.settle.new.locals c.settle.new.self.frames c.settle.new.self.room c.add.new.self.rows h c.settle.ensures.room counted))
          (queried kept c.in-Query.variable c.settle.new.locals c.settle.new.self.frames s.frames.room h _ refl stands refl sound call.1.reserves c.in-Query.ensures.load),
      subst (λ cs. AreStored n s.traces cs (length s.prepared.items)) (sym counted) (stored_counted n s.traces s.counts.rows (length s.prepared.items) h stored),
      c.self.invariant.2,
    )

pub invariant_of-self-in-End : goal.invariant_of-self-in-End
invariant_of-self-in-End c =
    (ended c.self.invariant.0 c.settle.new.locals c.settle.new.self.frames c.settle.new.self.room c.settle.ensures.room c.in-End.ensures.asks.1, c.self.invariant.1, c.self.invariant.2)

pub returns-in-Command-clause-reserves : goal.returns-in-Command-clause-reserves
returns-in-Command-clause-reserves c =
    let stands = ap (λ (d : ClientState). d.stage) c.self.view_is ∙ c.requires in
    let within = within_of c.self.invariant.0 stands in
    let (sound, call) = c.in-Command.ensures.sound _ _ within.sound in
    subst (λ (d : ClientState). is_in (current_block d).reserved c.in-Command.call.now.object ≡ true) c.self.view_is call.reserves

pub returns-in-Query-clause-reserves : goal.returns-in-Query-clause-reserves
returns-in-Query-clause-reserves c =
    let stands = ap (λ (d : ClientState). d.stage) c.self.view_is ∙ c.requires in
    let within = within_of c.self.invariant.0 stands in
    let (sound, call) = c.in-Query.ensures.sound _ _ within.sound in
    subst (λ (d : ClientState). is_in (current_block d).reserved c.in-Query.call.now.object ≡ true) c.self.view_is call.1.reserves

pub returns-in-Command-clause-short : goal.returns-in-Command-clause-short
returns-in-Command-clause-short c =
    let stands = ap (λ (d : ClientState). d.stage) c.self.view_is ∙ c.requires in
    let within = within_of c.self.invariant.0 stands in
    let (sound, call) = c.in-Command.ensures.sound _ _ within.sound in
    omega (arith, call.arity, arity_small c.in-Command.call.now.op)

pub returns-in-Query-clause-short : goal.returns-in-Query-clause-short
returns-in-Query-clause-short c =
    let stands = ap (λ (d : ClientState). d.stage) c.self.view_is ∙ c.requires in
    let within = within_of c.self.invariant.0 stands in
    let (sound, call) = c.in-Query.ensures.sound _ _ within.sound in
    omega (arith, call.1.arity, arity_small c.in-Query.call.now.op)

pub returns-in-Command-clause-goes : goal.returns-in-Command-clause-goes
returns-in-Command-clause-goes c =
    let s = c.self.inside in
    let n = length s.entries.items in
    let stands = ap (λ (d : ClientState). d.stage) c.self.view_is ∙ c.requires in
    let within = within_of c.self.invariant.0 stands in
    let same : c.len.result ≡ n = c.len.ensures ∙ s.entries.ok.0 in
    let call = c.in-Command.call in
    let e : Event = event (request_of c.settle.new.locals call.now) None in
    let noted : c.note.new.self ≡ noted_at s.traces (n - 1) e = c.note.ensures.noted ∙ (λ i. noted_at s.traces (same i - 1) (event (c.request.ensures.value i) None)) in
    let old = client_from s.program.now s.number s.stage s.locals s.frames.frames s.frames.room s.entries.items s.traces s.counts.rows s.prepared.items in
    let new = client_from s.program.now s.number s.stage c.settle.new.locals c.settle.new.self.frames c.settle.new.self.room s.entries.items c.note.new.self s.counts.rows s.prepared.items in
    let moves = moved_noted s.program.now s.number s.stage s.locals s.frames.frames s.frames.room s.entries.items s.traces s.counts.rows s.prepared.items c.self.invariant.1 within.some s.stage
    c.settle.new.locals c.settle.new.self.frames c.settle.new.self.room c.note.new.self e c.settle.ensures.room noted in
    subst (λ (d : ClientState). AsksNext (asked.Command call) d new) c.self.view_is
    (c.in-Command.ensures.asks, moves ∙ ap (λ st. after_moves old st c.settle.new.locals c.settle.new.self.frames (noted_in old.traces e) old.counts) stands)

pub returns-in-Query-clause-goes : goal.returns-in-Query-clause-goes
returns-in-Query-clause-goes c =
    let s = c.self.inside in
    let n = length s.entries.items in
    let stands = ap (λ (d : ClientState). d.stage) c.self.view_is ∙ c.requires in
    let within = within_of c.self.invariant.0 stands in
    let same : c.len-in-Query.result ≡ n = c.len-in-Query.ensures ∙ s.entries.ok.0 in
    let x = c.in-Query.variable in
    let call = c.in-Query.call in
    let h = call.now.object in
    let counted : c.add.new.self.rows ≡ set s.counts.rows (n - 1) (with_sync h (get_or s.counts.rows (n - 1) [])) =
    ap (λ (t : CountsState). t.rows) c.add.ensures.added ∙ (λ i. set s.counts.rows (same i - 1) (with_sync h (get_or s.counts.rows (same i - 1) []))) in
    let new = client_from s.program.now s.number (stages.Waiting x) c.settle.new.locals c.settle.new.self.frames c.settle.new.self.room s.entries.items s.traces c.add.new.self.rows s.prepared.items in
    let moves = moved_counted s.program.now s.number s.stage s.locals s.frames.frames s.frames.room s.entries.items s.traces s.counts.rows s.prepared.items c.self.invariant.1 within.some (stages.Waiting x)
    c.settle.new.locals c.settle.new.self.frames c.settle.new.self.room c.add.new.self.rows h c.settle.ensures.room counted in
    subst (λ (d : ClientState). AsksNext (asked.Query call) d new) c.self.view_is (x, c.in-Query.ensures.asks, moves)
