use Rattle.std.proofs.Common.{arith, length-drop, take_all}
use Rattle.qs_script.proofs.tokens.Lexemes.{front_comment}
use Rattle.qs_script.proofs.tokens.lex.front.Goals as goal

pub returns-then-first-eq35-clause-exact : goal.returns-then-first-eq35-clause-exact
returns-then-first-eq35-clause-exact c =
    front_comment c.args.text.now _ c.run_end.result c.requires.some c.if-first-eq35.true c.run_end.ensures.run
    (take_all _ _ (simp length-drop (omega arith)))
