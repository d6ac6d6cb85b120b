use Rattle.std.proofs.Common.{◌<◌, append_assoc, length, subst, sym, ◌∙◌}
use Rattle.qs_program.specs.audit.Program.{ProgramShape}
use Rattle.qs_steps.proofs.Queues.{on_ok}
use Rattle.qs_steps.proofs.core_queues.put_handler.Goals as goal

pub put_queue-requires : goal.put_queue-requires
put_queue-requires c = record { handler = subst (λ (q : ProgramShape). c.args.handler < length q.objects) (sym c.requires.own) c.requires.handler }

pub returns-clause-ok : goal.returns-clause-ok
returns-clause-ok c =
    on_ok c.put_json-2.result c.put_json-2.ensures.ok (λ last. last
    ∙ simp (c.in_ok-put_lanes.ensures.ok, c.in_ok-put_json.ensures.ok, c.in_ok-put_queue.ensures.ok, append_assoc))
