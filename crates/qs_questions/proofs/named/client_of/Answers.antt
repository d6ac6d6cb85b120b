use Rattle.std.proofs.Common.{◌≡◌, ◌<◌, true, length, sym, arith}
use Rattle.qs_questions.proofs.Common.{client_at, ClientShape, no_client, same_name}
use Rattle.qs_questions.proofs.Firsts.{first_at, first_none}
use Rattle.qs_questions.proofs.named.client_of.Goals as goal

pub returns-then-eq-clause-client : goal.returns-then-eq-clause-client
returns-then-eq-clause-client c =
    let p = c.args.program.now in
    let i = c.loop-client.client in
    let count = c.clients-client-end.ensures.value in
    let inside : i < length p.clients = omega (arith, count) in
    let here : same_name c.args.name.now (client_at p i).name ≡ true = cc in
    sym (first_at (λ (o : ClientShape). same_name c.args.name.now o.name) no_client p.clients i inside here
    c.loop-client.invariant)

pub returns-clause-client : goal.returns-clause-client
returns-clause-client c =
    let p = c.args.program.now in
    let count = c.clients-client-end.ensures.value in
    sym (first_none (λ (o : ClientShape). same_name c.args.name.now o.name) no_client p.clients
    (λ k h. c.loop-client.invariant k (omega (arith, count))))
