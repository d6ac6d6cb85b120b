-- The workers that were made of the parts of a run are ready together.
use Rattle.qs_run.proofs.ReadyWorkers.{all_ready}
use Rattle.qs_run.proofs.prepare.workers.make_workers.Goals as goal

pub returns : goal.returns
returns g c =
    let parts = c.requires.parts in
    record {
      ready = all_ready g.D.DeskName.program c.args.mode c.args.size c.args.parts.outs.items c.args.parts.ins.items _ _ c.add_handlers.ensures.workers
          c.add_clients.ensures.workers parts.lane;
    }
