use Rattle.qs_program.proofs.StatementLists.{statements_of-append}
use Rattle.qs_program.proofs.code.Body.push.Goals as goal

pub returns-then-len-capacity-clause-ok : goal.returns-then-len-capacity-clause-ok
returns-then-len-capacity-clause-ok c = rw (c.push_reserved.ensures.items, ← c.self.view_is) (statements_of-append c.self.inside.stmts.items c.args.stmt)
