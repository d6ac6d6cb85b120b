use Rattle.std.proofs.Common.{◌≡◌, ◌<◌, ◌-◌, Option, ℤ, pos, length, get_or-take, ap, sym, refl, set, slice_set, subst, ◌∙◌, arith, rules}
use Rattle.qs_played.proofs.Names.{unwrap_or, Event, value_of}
use Rattle.std.proofs.lemmas.Int.{to_z-of_z, ints}
use Rattle.qs_plain.proofs.Names.{TraceState, noted_at, trace_at, AreStored, ClientState, IsClient, client_from, Replies, RepliesAt, after_moves, no_trace, noted_in, Stage}
use Rattle.qs_plain.specs.declared.client.stage.Stage.TheVariants as stages
use Rattle.qs_plain.proofs.client.ClientPreserved.{waiting_of, answered}
use Rattle.qs_plain.proofs.client.StoredClients.{empty_later, many_prepared, moved_noted, stored_noted}
use Rattle.qs_plain.proofs.client.client.ClientState.reply.Goals as goal
use mir.Val.{to_z, of_z}
use mir.Syntax.{w64}

unwrapped : (v : Option ℤ) → unwrap_or v (pos 0) ≡ value_of v
unwrapped w = search rules

pub note-requires-clause-last : goal.note-requires-clause-last
note-requires-clause-last c =
    let s = c.self.inside in
    let within = waiting_of c.self.invariant.0 c.in-Waiting.variable c.in-Waiting.is in
    let same : c.len.result ≡ length s.entries.items = c.len.ensures ∙ s.entries.ok.0 in
    let many = many_prepared (length s.entries.items) s.traces s.counts.rows s.prepared.items c.self.invariant.1 in
    λ j after.
    empty_later (length s.entries.items) s.traces s.counts.rows s.prepared.items c.self.invariant.1 within.some
    (λ i x below. (c.self.invariant.0.prepared i x (omega (arith, below, many))).stocked.trace) j (omega (arith, same, after))

pub invariant_of-self : goal.invariant_of-self
invariant_of-self c =
    let s = c.self.inside in
    let n = length s.entries.items in
    let e : Event = record { request = c.args.request; reply = c.args.reply } in
    let kept = c.self.invariant.0 in
    let stored = c.self.invariant.1 in
    let within = waiting_of kept c.in-Waiting.variable c.in-Waiting.is in
    let noted : c.note.new.self ≡ noted_at s.traces (n - 1) e = c.note.ensures.noted ∙ ap (λ m. noted_at s.traces (m - 1) e) (c.len.ensures ∙ s.entries.ok.0) in
    let some = within.some in
    let last = ap (λ (t : TraceState). t.room) (get_or-take n s.traces (n - 1) no_trace (omega (arith, some))) in
    let room : 0 < (trace_at s.traces (n - 1)).room = let left = within.room in omega (arith, left, last) in (
      subst IsClient
          (sym (moved_noted s.program.now s.number s.stage s.locals s.frames.frames s.frames.room s.entries.items s.traces s.counts.rows s.prepared.items stored some stages.Within c.set_variable.new.locals s.frames.frames s.frames.room c.note.new.self e refl noted))
          (answered kept c.in-Waiting.variable c.set_variable.new.locals _ e c.in-Waiting.is refl),
      subst (λ ts. AreStored n ts s.counts.rows (length s.prepared.items)) (sym noted) (stored_noted n s.traces s.counts.rows (length s.prepared.items) e stored some room),
      c.self.invariant.2,
    )

pub returns-in-Waiting-clause-replies : goal.returns-in-Waiting-clause-replies
returns-in-Waiting-clause-replies c =
    let s = c.self.inside in
    let n = length s.entries.items in
    let e : Event = record { request = c.args.request; reply = c.args.reply } in
    let within = waiting_of c.self.invariant.0 c.in-Waiting.variable c.in-Waiting.is in
    let noted : c.note.new.self ≡ noted_at s.traces (n - 1) e = c.note.ensures.noted ∙ ap (λ m. noted_at s.traces (m - 1) e) (c.len.ensures ∙ s.entries.ok.0) in
    let kept_value : to_z w64 (of_z w64 c.unwrap_or.result) ≡ unwrap_or c.args.reply (pos 0) = search (arith, ints, to_z-of_z, c.unwrap_or.ensures) in
    let stored : c.set_variable.new.locals ≡ slice_set s.locals c.in-Waiting.variable (value_of c.args.reply) = c.set_variable.ensures.set ∙ ap (set s.locals c.in-Waiting.variable) (kept_value ∙ unwrapped c.args.reply) in
    let old = client_from s.program.now s.number s.stage s.locals s.frames.frames s.frames.room s.entries.items s.traces s.counts.rows s.prepared.items in
    let new = client_from s.program.now s.number stages.Within c.set_variable.new.locals s.frames.frames s.frames.room s.entries.items c.note.new.self s.counts.rows s.prepared.items in
    let moves = moved_noted s.program.now s.number s.stage s.locals s.frames.frames s.frames.room s.entries.items s.traces s.counts.rows s.prepared.items c.self.invariant.1 within.some stages.Within
    c.set_variable.new.locals s.frames.frames s.frames.room c.note.new.self e refl noted in
    subst (λ (d : ClientState). Replies d c.args.request c.args.reply new) c.self.view_is
    (subst (λ (st : Stage). RepliesAt st old c.args.request c.args.reply new) (sym c.in-Waiting.is) (moves ∙ ap (λ l. after_moves old stages.Within l s.frames.frames (noted_in old.traces e) old.counts) stored))
