-- What reading a text answers.
use Rattle.std.specs.Prelude.{◌≡◌, ℕ, ◌≤◌, List, length, Ok}
use Rattle.qs_script.specs.declared.tokens.token.Token.{Token}
use Rattle.qs_script.specs.declared.tree.tree.Item.{Item}
use Rattle.qs_script.specs.audit.tokens.Tokens.{tokens_of}
use Rattle.qs_script.specs.audit.grammar.Grammar.{IsScript}
use Rattle.qs_script.specs.audit.tree.Limits.{longest_text}

-- the text has at most 65,536 bytes, and its tokens are the script's
pub record IsScriptText (text : List ℕ) (script : List Item) : Type 0 where
  pub short : length text ≤ longest_text
  pub tokens : List Token
  pub cut : tokens_of text ≡ Ok tokens
  pub tree : IsScript script tokens
