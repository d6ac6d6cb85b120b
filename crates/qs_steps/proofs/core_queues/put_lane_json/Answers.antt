use Rattle.std.proofs.Common.{append_assoc, ◌∙◌}
use Rattle.qs_steps.proofs.Queues.{on_ok}
use Rattle.qs_steps.proofs.core_queues.put_lane_json.Goals as goal

pub returns-clause-ok : goal.returns-clause-ok
returns-clause-ok c =
    on_ok c.put-2.result c.put-2.ensures.ok (λ last. last
    ∙ simp (c.in_ok-put_parcels.ensures.ok, c.in_ok-put.ensures.ok, c.in_ok-put_client_name.ensures.ok, append_assoc))
