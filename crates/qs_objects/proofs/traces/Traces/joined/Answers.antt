use Rattle.std.proofs.Common.{List, sym, ap, ◌∙◌}
use Rattle.qs_objects.specs.audit.Rows.{join_rows}
use Rattle.qs_objects.specs.Traces.{TraceState, events_of}
use Rattle.qs_objects.proofs.TraceRows.{events_of_rooms}
use Rattle.qs_objects.proofs.traces.Traces.joined.Goals as goal

pub returns : goal.returns
returns c = record {
  events = c.joined.ensures.value ∙ sym (ap join_rows (events_of_rooms c.self.inside.rows.rows c.self.inside.rooms.items c.self.invariant.many))
      ∙ ap (λ (ts : List TraceState). join_rows (events_of ts)) c.self.view_is;
}
