use Rattle.qs_program.proofs.StatementLists.{statements_of-append}
use Rattle.qs_program.proofs.code.Body.push_more.Goals as goal

pub returns-clause-ok : goal.returns-clause-ok
returns-clause-ok c = rw (c.in_ok-push.ensures.items, ← c.self.view_is) (statements_of-append c.self.inside.stmts.items c.args.stmt)
