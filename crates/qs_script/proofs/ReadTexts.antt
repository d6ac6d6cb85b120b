-- A text belongs to at most one script, and a text that belongs to one is refused only where memory runs out. The
-- contract of `read` and the worked examples stand on it. It joins the two directions that are proved of the grammar:
-- whatever is read is a script, and every script is read.
use Rattle.std.proofs.Common.{◌≡◌, ℕ, List, refl, sym, subst, arith}
use Rattle.qs_script.specs.Types.{Item}
use Rattle.qs_script.specs.declared.fault.ReadFault.{ReadFault}
use Rattle.qs_script.specs.declared.fault.ReadFault.TheVariants as f
use Rattle.qs_script.specs.declared.tokens.lex.TokenFault.TheVariants as e
use Rattle.qs_script.specs.audit.tokens.Tokens.{tokens_of}
use Rattle.qs_script.specs.audit.grammar.Grammar.{IsScript}
use Rattle.qs_script.specs.audit.Reads.{IsScriptText}
use Rattle.qs_script.specs.Reads.{IsRefused}
use Rattle.qs_script.proofs.grammar.Readings.{both_ok, not_both, one_tree}

-- a text is at most one script's
pub one_script : (text : List ℕ) (s u : List Item) → IsScriptText text s → IsScriptText text u → s ≡ u
one_script text s u g h =
    one_tree s u g.tokens g.tree (subst (IsScript u) (sym (both_ok (tokens_of text) g.tokens h.tokens g.cut h.cut)) h.tree)

-- a script's text is refused only where memory runs out
pub only_memory : (text : List ℕ) (s : List Item) (fault : ReadFault) → IsScriptText text s → IsRefused fault text → fault ≡ f.Memory
only_memory text s f.Size g h = absurd (omega (arith, g.short))
only_memory text s (f.Byte line) g (m, (q, there)) = absurd (not_both (tokens_of text) g.tokens e.Byte g.cut q)
only_memory text s (f.Number line) g (m, (q, there)) = absurd (not_both (tokens_of text) g.tokens e.Number g.cut q)
only_memory text s (f.Name line) g (m, (q, there)) = absurd (not_both (tokens_of text) g.tokens e.Name g.cut q)
only_memory text s (f.Form line) g (m, us, q, no_tree, there) =
    absurd (no_tree s (subst (IsScript s) (both_ok (tokens_of text) g.tokens us g.cut q) g.tree))
only_memory text s f.Memory h k = refl
