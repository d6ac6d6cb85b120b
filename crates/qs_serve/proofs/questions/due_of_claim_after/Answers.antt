use Rattle.qs_serial.specs.audit.NamedOrders.{order_of}
use Rattle.qs_serve.proofs.Dues.{answer_after, answer_places}
use Rattle.qs_serve.proofs.questions.due_of_claim_after.Goals as goal

pub due_of_answer-requires : goal.due_of_answer-requires
due_of_answer-requires g c = record {
  places = answer_places c.args.claim.now c.args.program.now (order_of c.args.clients.now) c.in-Ok.answer c.in-Ok.ensures.answer;
}

pub returns-in-Ok-clause-due : goal.returns-in-Ok-clause-due
returns-in-Ok-clause-due g c =
    answer_after c.args.format c.args.program.now c.args.claim.now c.args.limit c.args.clients.now c.in-Ok.answer _ c.in-Ok.ensures.answer c.in-Ok.ensures.within c.due_of_answer.ensures.due
