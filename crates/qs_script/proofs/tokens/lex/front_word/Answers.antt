use Rattle.std.proofs.Common.{◌∙◌, ap, sym, arith}
use Rattle.std.proofs.lemmas.List.{take_rest}
use Rattle.qs_script.specs.declared.tokens.token.Token.TheVariants.{Name as name}
use Rattle.qs_script.proofs.tokens.Lexemes.{long_word, short_word}
use Rattle.qs_script.proofs.tokens.lex.front_word.Goals as goal

pub returns-then-end-gt-LONGEST_NAME-clause-exact : goal.returns-then-end-gt-LONGEST_NAME-clause-exact
returns-then-end-gt-LONGEST_NAME-clause-exact c =
    long_word c.args.text.now c.run_end-end.result c.requires.some c.requires.letter c.run_end-end.ensures.run c.run_end-end.ensures.within (omega arith)

pub returns-in-Some-clause-exact : goal.returns-in-Some-clause-exact
returns-in-Some-clause-exact c =
    short_word c.args.text.now _ c.run_end-end.result c.in-Some.token c.requires.some c.requires.letter c.run_end-end.ensures.run c.run_end-end.ensures.within (omega arith)
    (take_rest c.args.text.now c.run_end-end.result) c.in-Some.ensures

pub returns-in-None-clause-exact : goal.returns-in-None-clause-exact
returns-in-None-clause-exact c =
    short_word c.args.text.now _ c.run_end-end.result _ c.requires.some c.requires.letter c.run_end-end.ensures.run c.run_end-end.ensures.within (omega arith)
    (take_rest c.args.text.now c.run_end-end.result) (c.in-None.ensures ∙ ap name (sym c.front.ensures.same))
