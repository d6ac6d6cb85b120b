use Rattle.qs_client.specs.MindState.{mind_of}
use Rattle.qs_run.proofs.client.ThreadActs.{HasDeeds}
use Rattle.qs_run.proofs.client.running.run.Given as goal

abbrev pub invariant-loop : goal.invariant-loop
invariant-loop g l = HasDeeds g.D.DeskName.program l.fn.share.client (mind_of l.fn.mind) l.fn.lanes (mind_of l.mind) l.share l.lanes
