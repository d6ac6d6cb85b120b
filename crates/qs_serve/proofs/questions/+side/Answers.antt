use Rattle.std.proofs.Common.{◌≡◌, ◌++◌, ◌/◌, length, subst}
use Rattle.std.proofs.lemmas.List.{take-append-drop}
use denote.Param.Send.{sendable}
use Rattle.std.proofs.Crossing.{crosses}
use Rattle.qs_levels.proofs.Crossing.{program_sync}
use Rattle.qs_serve.proofs.Crossing.{asked_send}
use Rattle.qs_serve.specs.Due.{AreAnswersDue}
use Rattle.qs_serve.proofs.questions.+side.Goals as goal

pub join-one-requires-send-F : goal.join-one-requires-send-F
join-one-requires-send-F g t c κs within = search (asked_send, program_sync, crosses, sendable) depth 40

pub returns-clause-due : goal.returns-clause-due
returns-clause-due g t c =
    let asked = c.args.asked in
    let whole : c.split_at.result.0.now ++ c.split_at.result.1.now ≡ asked.questions.now =
    cc (c.split_at.ensures.front, c.split_at.ensures.back, take-append-drop (length asked.questions.now / 2) asked.questions.now) in
    subst (λ questions. AreAnswersDue asked.format c.args.program.now questions asked.limit c.args.clients.now c.joined.result) whole
    (c.joined.ensures.joined asked.format c.args.program.now _ _ asked.limit c.args.clients.now c.join-one.ensures.first.1 c.join-one.ensures.second.1)
