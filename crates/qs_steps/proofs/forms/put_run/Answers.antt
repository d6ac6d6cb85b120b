use Rattle.qs_steps.proofs.Queues.{on_ok}
use Rattle.qs_steps.proofs.forms.put_run.Goals as goal

pub returns : goal.returns
returns c = record { ok = on_ok c.put_event.result c.put_event.ensures.ok (λ puts. puts.is) }
