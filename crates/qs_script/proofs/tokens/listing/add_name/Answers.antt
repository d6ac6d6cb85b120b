use Rattle.std.proofs.Common.{◌∙◌, sym, ap, arith}
use Rattle.qs_script.specs.declared.tokens.token.Token.TheVariants.{Name as name}
use Rattle.qs_script.proofs.tokens.Lexemes.{cut_word, word_begins}
use Rattle.qs_script.proofs.tokens.Lists.{adds_word}
use Rattle.qs_script.proofs.tokens.listing.add_name.Goals as goal

pub returns-then-end-gt-LONGEST_NAME-clause-exact : goal.returns-then-end-gt-LONGEST_NAME-clause-exact
returns-then-end-gt-LONGEST_NAME-clause-exact c =
    cut_word c.args.text.now c.name_end-end.result (omega arith) c.requires.letter c.name_end-end.ensures.end (omega arith)

pub returns-clause-exact : goal.returns-clause-exact
returns-clause-exact c =
    adds_word _ _ _ c.args.text.now c.name_end-end.result _ c.put.result c.put.ensures.same c.put.ensures.added c.with_space.ensures.same (omega arith) c.requires.letter
    c.name_end-end.ensures.end c.name_end-end.ensures.within (omega arith)
    (word_begins c.args.text.now c.name_end-end.result (omega arith) c.requires.letter c.name_end-end.ensures.end name c.requires.none ∙ ap name (sym c.front.ensures.same))
