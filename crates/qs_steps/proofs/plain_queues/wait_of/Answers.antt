use Rattle.std.proofs.Common.{ap, ◌∙◌}
use Rattle.qs_plain_laws.specs.audit.Plain.{client_at}
use Rattle.qs_steps.proofs.Names.{awaited_at, awaited_in, plain_of}
use Rattle.qs_steps.proofs.Queues.{wait_is}
use Rattle.qs_steps.proofs.plain_queues.wait_of.Goals as goal

pub returns : goal.returns
returns c =
    let s = plain_of c.args.rules.now in
    let n = c.args.client in
    record {
      words = c.words_of.ensures.words ∙ ap (awaited_in c.args.form) (c.awaited.ensures.value ∙ ap (λ p. awaited_at p s n) c.requires.own)
          ∙ wait_is c.args.form c.args.program.now n (client_at s n) (client_at s n).stage;
    }
