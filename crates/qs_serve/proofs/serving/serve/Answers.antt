use Rattle.std.proofs.Common.{rules}
use Rattle.qs_serve.proofs.AskedDues.{serves_of}
use Rattle.qs_serve.proofs.serving.serve.Goals as goal

pub returns-clause-serves : goal.returns-clause-serves
returns-clause-serves g c = search (rules, serves_of)
