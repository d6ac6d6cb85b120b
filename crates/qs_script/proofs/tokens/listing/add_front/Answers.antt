use Rattle.std.proofs.Common.{ap, ◌∙◌, refl, arith}
use Rattle.qs_script.specs.audit.tokens.Tokens.{after}
use Rattle.qs_script.proofs.tokens.Lexemes.{front_comment, after-nil}
use Rattle.qs_script.proofs.tokens.listing.add_front.Goals as goal

pub returns-in-35-clause-exact : goal.returns-in-35-clause-exact
returns-in-35-clause-exact c =
    ap (after c.args.tokens.now.items)
    (front_comment c.args.text.now _ c.run_end.result (omega arith) c.in-35.is c.run_end.ensures.run refl ∙ after-nil _)
