use Rattle.qs_standings.proofs.going.GoingSets.{in_none, none_grown}
use Rattle.qs_standings.proofs.going.going.goes_on.Goals as goal

pub loop-client-init : goal.loop-client-init
loop-client-init c = record { best = λ i k. in_none k i; latest = none_grown c.args.program.now c.args.begun.now }
