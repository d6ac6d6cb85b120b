use Rattle.std.proofs.Common.{◌<◌, List, length, sym, ap, ◌∙◌, subst}
use Rattle.qs_objects.specs.Traces.{TraceState, trace_at}
use Rattle.qs_objects.proofs.TraceRows.{trace_of_rooms, within}
use Rattle.qs_objects.proofs.traces.Traces.of.Goals as goal

pub of-requires : goal.of-requires
of-requires c = record { row = within _ _ _ c.args.block c.self.invariant (subst (λ (ts : List TraceState). c.args.block < length ts) (sym c.self.view_is) c.requires.block) }

pub returns : goal.returns
returns c = record {
  events = c.of.ensures.value
      ∙ sym (ap (λ (t : TraceState). t.events) (trace_of_rooms c.self.inside.rows.rows c.self.inside.rooms.items c.args.block c.self.invariant.many))
      ∙ ap (λ (ts : List TraceState). (trace_at ts c.args.block).events) c.self.view_is;
}
