use Rattle.std.proofs.Common.{◌∙◌, ap, sym, Ok}
use Rattle.qs_serve.proofs.ClaimsDues.{due_by_claims}
use Rattle.qs_serve.proofs.questions.due_of_questions_by_threads.Goals as goal

pub returns-in-Ok-clause-due : goal.returns-in-Ok-clause-due
returns-in-Ok-clause-due g c =
    let asked = c.args.asked in
    due_by_claims asked.format c.args.program.now asked.questions.now asked.limit asked.threads c.args.front.now c.as_slice.result.now _
    c.in-Ok.ensures.some c.in-Ok.ensures.known (c.in-Ok.ensures.clients ∙ ap Ok (sym c.as_slice.ensures.value)) c.due_side_by_side.ensures.due
