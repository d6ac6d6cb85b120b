use Rattle.std.proofs.Common.{◌<◌, List, length, sym, ap, ◌∙◌, subst, arith}
use Rattle.qs_objects.specs.Rows.{RowsState}
use Rattle.qs_objects.specs.Traces.{AreEmptyAfter, HaveRoom, TraceState, noted_at, trace_at, with_rooms}
use Rattle.qs_objects.specs.declared.held.Event.{Event}
use Rattle.qs_objects.proofs.TraceRows.{last_of_rooms, note_room, note_rooms, room_within, within}
use Rattle.qs_objects.proofs.traces.Traces.note.Goals as goal

pub push-requires-clause-row : goal.push-requires-clause-row
push-requires-clause-row c = within _ _ _ c.args.block c.self.invariant (subst (λ (ts : List TraceState). c.args.block < length ts) (sym c.self.view_is) c.requires.block)

pub push-requires-clause-last : goal.push-requires-clause-last
push-requires-clause-last c =
    last_of_rooms c.self.inside.rows.rows c.self.inside.rooms.items c.args.block c.self.invariant.many
    (subst (λ (ts : List TraceState). AreEmptyAfter ts c.args.block) (sym c.self.view_is) c.requires.last)

pub push-requires-clause-room : goal.push-requires-clause-room
push-requires-clause-room c =
    let some : 0 < (trace_at (with_rooms c.self.inside.rows.rows c.self.inside.rooms.items) c.args.block).room =
    subst (λ (ts : List TraceState). 0 < (trace_at ts c.args.block).room) (sym c.self.view_is) c.requires.room in
    omega (arith, some, room_within (with_rooms c.self.inside.rows.rows c.self.inside.rooms.items) c.args.block, c.self.invariant.whole)

pub invariant_of-self : goal.invariant_of-self
invariant_of-self c =
    let row = within _ _ _ c.args.block c.self.invariant (subst (λ (ts : List TraceState). c.args.block < length ts) (sym c.self.view_is) c.requires.block) in
    let some : 0 < (trace_at (with_rooms c.self.inside.rows.rows c.self.inside.rooms.items) c.args.block).room =
    subst (λ (ts : List TraceState). 0 < (trace_at ts c.args.block).room) (sym c.self.view_is) c.requires.room in
    subst (λ (r : RowsState Event). HaveRoom r.rows c.self.inside.rooms.items r.room) (sym c.push.ensures.pushed)
    (note_room c.self.inside.rows.rows c.self.inside.rooms.items c.self.inside.rows.room c.args.block c.args.event c.self.invariant row some)

pub returns : goal.returns
returns c =
    let row = within _ _ _ c.args.block c.self.invariant (subst (λ (ts : List TraceState). c.args.block < length ts) (sym c.self.view_is) c.requires.block) in
    record {
      noted = ap (λ (r : RowsState Event). with_rooms r.rows c.self.inside.rooms.items) c.push.ensures.pushed
          ∙ (note_rooms c.self.inside.rows.rows c.self.inside.rooms.items c.args.block c.args.event c.self.invariant.many row
          ∙ ap (λ (ts : List TraceState). noted_at ts c.args.block c.args.event) c.self.view_is);
    }
