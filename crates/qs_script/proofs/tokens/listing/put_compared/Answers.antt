use Rattle.std.proofs.Common.{◌∙◌, [], ◌∷◌, sym, ap, arith}
use Rattle.qs_script.specs.audit.tokens.Tokens.{after}
use Rattle.qs_script.proofs.tokens.Lexemes.{sign_alone}
use Rattle.qs_script.proofs.tokens.Lists.{adds}
use Rattle.qs_script.proofs.tokens.listing.put_compared.Goals as goal

pub returns-else-text-eq61-clause-exact : goal.returns-else-text-eq61-clause-exact
returns-else-text-eq61-clause-exact c =
    adds _ _ _ _ _ c.put-else-text-eq61.result c.put-else-text-eq61.ensures.same c.put-else-text-eq61.ensures.added
    (sign_alone c.args.text.now c.args.alone c.args.with_equals (omega arith) c.requires.begins c.if-text-eq61.false
    ∙ ap (after (c.args.alone ∷ [])) (sym c.with_space-else-text-eq61.ensures.same))
