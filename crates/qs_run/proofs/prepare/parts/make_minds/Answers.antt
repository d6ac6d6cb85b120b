-- The mind that is made for a client is the next of the list.
use Rattle.std.proofs.Common.{◌≤◌, refl, sym, subst}
use Rattle.qs_run.specs.Workers.{IsMindAtStart}
use Rattle.qs_run.proofs.ListPlaces.{one_more}
use Rattle.qs_run.proofs.prepare.parts.make_minds.Goals as goal

pub loop-client-preserved : goal.loop-client-preserved
loop-client-preserved c =
    let l = c.loop-client in
    record {
      minds = one_more (IsMindAtStart c.args.program.now c.args.mode c.args.size) l.client l.minds.items c.push_reserved.new.self.items
          c.in_ok-make_mind.field-0 c.in_ok-make_mind.field-0 l.invariant.minds c.in_ok-make_mind.ensures.mind refl c.push_reserved.ensures.items;
      room = subst (λ n. c.clients-count.result ≤ n) (sym c.push_reserved.ensures.capacity) l.invariant.room;
    }
