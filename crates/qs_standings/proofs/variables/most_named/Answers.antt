use Rattle.std.proofs.Common.{◌≡◌, ◌≤◌, ℕ, Bool, true, false, cond, ap, arith, length, ◌∙◌}
use Rattle.qs_program.specs.audit.Program.{client_at}
use Rattle.qs_standings.proofs.RowSteps.{few_variables}
use Rattle.qs_standings.proofs.variables.most_named.Goals as goal

either : (b : Bool) (m n most : ℕ) → m ≤ most → n ≤ most → cond b m n ≤ most
either true m n most p q = p
either false m n most p q = q

pub loop-client-preserved : goal.loop-client-preserved
loop-client-preserved c =
    let p = c.args.program.now in
    let i = c.loop-client.client in
    let count : c.len.result ≡ length (client_at p i).variables = c.len.ensures.value ∙ ap length c.variables.ensures.value in
    let few = few_variables p c.keeps_sound.ensures.sound i (omega arith) in
    rw c.max-most.ensures (either _ c.loop-client.most c.len.result _ c.loop-client.invariant (omega (arith, count, few)))
