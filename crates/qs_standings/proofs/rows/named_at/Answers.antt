use Rattle.std.proofs.Common.{◌≡◌, ◌+◌, ap, arith, length, ◌∙◌, add-one}
use Rattle.qs_program.specs.audit.Program.{client_at}
use Rattle.qs_standings.proofs.NextRows.{before_more}
use Rattle.qs_standings.proofs.RowSteps.{few_variables}
use Rattle.qs_standings.proofs.rows.named_at.Goals as goal

pub loop-before-preserved : goal.loop-before-preserved
loop-before-preserved c =
    let p = c.args.program.now in
    let i = c.loop-before.before in
    let n : c.len-place.result ≡ length (client_at p i).variables = c.len-place.ensures.value ∙ ap length c.variables.ensures.value in
    let few = few_variables p c.keeps_sound.ensures.sound i (omega arith) in
    let here : 0 + i ≡ i = omega arith in
    let same : length (client_at p (0 + i)).variables ≡ length (client_at p i).variables = λ k. length (client_at p (here k)).variables in
    let place = c.loop-before.invariant.place in
    record { place = rw add-one (omega (arith, before_more p 0 i, n, same, place)); few = omega (arith, few, n, c.loop-before.invariant.few) }
