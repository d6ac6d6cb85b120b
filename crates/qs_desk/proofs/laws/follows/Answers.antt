use Rattle.std.proofs.Common.{ap, subst, ◌∙◌, ◌++◌, append-nil}
use Rattle.qs_desk.specs.Tickets.{AreFor}
use Rattle.qs_desk.proofs.Pushing.{for_all, sealed}
use Rattle.qs_desk.proofs.laws.follows.Goals as goal

pub returns-clause-all : goal.returns-clause-all
returns-clause-all g c before last =
    let p = g.D.DeskName.program in
    let h = c.args.tickets.handler in
    let d = c.args.desk.now in
    let f = c.follows.ensures.front in
    let are = subst (AreFor p h) (f.1 ∙ ap (λ xs. xs ++ f.0) last) (for_all p h d.history d.closed) in
    f.1 ∙ ap (λ xs. c.args.tickets.taken ++ xs) (sealed p h before f.0 are) ∙ append-nil c.args.tickets.taken
