use Rattle.std.proofs.Common.{[], ◌∷◌}
use Rattle.qs_script.specs.grammar.Reading.{close_paren_at, further_at, more_loop}
use Rattle.qs_script.proofs.Loops.{begins, closes, list_lawful}
use Rattle.qs_script.proofs.values.more.Goals as goal

pub returns-in-Some-clause-exact : goal.returns-in-Some-clause-exact
returns-in-Some-clause-exact c =
    rw c.one.ensures
    (closes more_loop (list_lawful close_paren_at further_at) (c.args.first ∷ []) c.args.tokens.now c.args.tokens.now c.in-Some.rest.now (c.args.first ∷ [])
    (begins more_loop (c.args.first ∷ []) c.args.tokens.now) c.in-Some.ensures.exact)
