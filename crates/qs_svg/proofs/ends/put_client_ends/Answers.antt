use Rattle.qs_svg.proofs.Common.{◌≡◌, ◌+◌, ◌*◌, suc, add-one, arith, configuration_in, client_end, lines_before}
use Rattle.qs_svg.proofs.FewLines.{few_lines}
use Rattle.qs_svg.proofs.Parts.{one_place_more}
use Rattle.qs_svg.proofs.ends.put_client_ends.Goals as goal

pub loop-client-preserved : goal.loop-client-preserved
loop-client-preserved c =
    let p = c.args.program.now in
    let i = c.loop-client.client in
    let inv = c.loop-client.invariant in
    let locals = (configuration_in c.args.standing.now).locals in (
      one_place_more (client_end p locals c.args.y) i inv.0 (rw inv.1 at c.in_ok-line.ensures.ok),
      rw add-one (omega (arith, c.in_ok-line.ensures.next, inv.1)),
      rw add-one (few_lines p (suc i)),
    )
