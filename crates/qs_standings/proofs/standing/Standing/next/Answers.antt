use Rattle.std.proofs.Common.{subst, sym}
use Rattle.qs_standings.specs.Standings.{IsOneOn}
use Rattle.qs_standings.proofs.Stands.{block_on}
use Rattle.qs_standings.proofs.standing.Standing.next.Goals as goal

pub returns : goal.returns
returns c = record {
  on = subst (IsOneOn c.args.program.now c.args.self.now c.args.client) (sym c.in_ok-put_next.ensures.next)
      (block_on c.args.program.now c.args.front.now c.args.self.now c.args.client _ _ c.requires.standing c.requires.client c.requires.left c.in_ok-run_next.ensures.ran);
}
