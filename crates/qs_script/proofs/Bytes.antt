-- A script has fewer statements than its text has bytes: it has fewer of them than tokens, and a text has at least a
-- byte for each of its tokens. The law that bounds the statements of a script is proved here.
use Rattle.std.proofs.Common.{ℕ, ◌<◌, List, [], ◌∷◌, length, arith}
use Rattle.qs_script.specs.Types.{Token, Item}
use Rattle.qs_script.specs.audit.Reads.{IsScriptText}
use Rattle.qs_script.specs.tree.Sizes.{statements}
use Rattle.qs_script.specs.audit.grammar.Grammar.{IsScript}
use Rattle.qs_script.proofs.tokens.TokenCounts.{tokens_within}
use Rattle.qs_script.proofs.grammar.Counts.{item_counted, items_counted}

strictly : (s : List Item) (ts : List Token) → 0 < statements s → IsScript s ts → statements s < length ts
strictly [] ts some h = absurd (omega arith)
strictly (i ∷ is) ts some (x, h, k) = omega (arith, item_counted i ts x h, items_counted is x [] k)

pub fewer_statements : (text : List ℕ) (s : List Item) → IsScriptText text s → 0 < statements s → statements s < length text
fewer_statements text s h some = omega (arith, strictly s h.tokens some h.tree, tokens_within text h.tokens h.cut)
