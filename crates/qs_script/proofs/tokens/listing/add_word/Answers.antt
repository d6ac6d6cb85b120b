use Rattle.std.proofs.Common.{◌≡◌, Bool, true, false, ◌∙◌, refl, sym, ap, arith, if◌then◌else◌}
use Rattle.qs_script.specs.audit.tokens.Tokens.{same}
use Rattle.qs_script.specs.declared.tokens.token.Token.{Token}
use Rattle.qs_script.specs.declared.tokens.token.Token.TheVariants.{Name as name}
use Rattle.qs_script.proofs.tokens.Lexemes.{cut_word, word_begins}
use Rattle.qs_script.proofs.tokens.Lists.{adds_word}
use Rattle.qs_script.proofs.tokens.listing.add_word.Goals as goal

reserved_then : (b : Bool) (token other : Token) → b ≡ true → (if b then token else other) ≡ token
reserved_then b token other e = rw e refl

name_else : (b : Bool) (token other : Token) → b ≡ false → (if b then token else other) ≡ other
name_else b token other e = rw e refl

pub returns-then-end-gt-LONGEST_NAME-clause-exact : goal.returns-then-end-gt-LONGEST_NAME-clause-exact
returns-then-end-gt-LONGEST_NAME-clause-exact c =
    cut_word c.args.text.now c.name_end-end.result (omega arith) c.requires.letter c.name_end-end.ensures.end (omega arith)

pub returns-then-is-clause-exact : goal.returns-then-is-clause-exact
returns-then-is-clause-exact c =
    adds_word _ _ _ c.args.text.now c.name_end-end.result _ c.put.result c.put.ensures.same c.put.ensures.added c.with_space.ensures.same (omega arith) c.requires.letter
    c.name_end-end.ensures.end c.name_end-end.ensures.within (omega arith)
    (word_begins c.args.text.now c.name_end-end.result (omega arith) c.requires.letter c.name_end-end.ensures.end
    (λ w. if same w c.args.word.now then c.args.token else name w) c.requires.only ∙ reserved_then _ _ _ (sym c.is.ensures ∙ c.if-is.true))

pub returns-else-is-clause-exact : goal.returns-else-is-clause-exact
returns-else-is-clause-exact c =
    adds_word _ _ _ c.args.text.now c.name_end-end.result _ c.put-else-is.result c.put-else-is.ensures.same c.put-else-is.ensures.added c.with_space-else-is.ensures.same (omega arith) c.requires.letter
    c.name_end-end.ensures.end c.name_end-end.ensures.within (omega arith)
    (word_begins c.args.text.now c.name_end-end.result (omega arith) c.requires.letter c.name_end-end.ensures.end
    (λ w. if same w c.args.word.now then c.args.token else name w) c.requires.only ∙ name_else _ _ _ (sym c.is.ensures ∙ c.if-is.false) ∙ ap name (sym c.front.ensures.same))
