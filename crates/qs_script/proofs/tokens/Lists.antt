-- The list of a text's tokens grows by what stands at the front, so the tokens of the text are those of the list and
-- those of the rest. The functions that add one token, such as `add_word`, stand on it.
use Rattle.std.proofs.Common.{◌≡◌, ◌<◌, ◌≤◌, ◌∙◌, ℕ, List, [], ◌∷◌, ◌++◌, length, take, drop, get_or, min, true, false, ap, sym, refl, arith, Result, Ok}
use Rattle.qs_script.specs.Types.{Token, TokenFault}
use Rattle.qs_script.specs.audit.tokens.Tokens.{tokens_of, after, is_letter, is_digit, is_name_byte, word_token, value_of}
use Rattle.qs_script.specs.declared.tokens.token.Token.TheVariants as t
use Rattle.qs_script.specs.tokens.Cutting.{Adds, run_of}
use Rattle.qs_script.proofs.tokens.Lexemes.{after-after, short_word, few_digits}

pub adds : (old new : List Token) (token : Token) (text : List ℕ) (n : ℕ) (r : Result ℕ TokenFault)
    → r ≡ Ok n → new ≡ old ++ token ∷ [] → tokens_of text ≡ after (token ∷ []) (tokens_of (drop n text)) → Adds old new r text
adds old new token text n r is added cut = rw (is, cut, added) (after-after old (token ∷ []) (tokens_of (drop n text)))

-- a word or number that ends there, with the space after it, if any
pub adds_word : (old new : List Token) (token : Token) (text : List ℕ) (end n : ℕ) (r : Result ℕ TokenFault)
    → r ≡ Ok n → new ≡ old ++ token ∷ [] → tokens_of (drop n text) ≡ tokens_of (drop end text) → 0 < length text → is_letter (get_or text 0 0) ≡ true
    → end ≡ min 17 (run_of is_name_byte text) → end ≤ length text → end ≤ 16 → word_token (take end text) ≡ token → Adds old new r text
adds_word old new token text end n r is added same some letter run within short word =
    adds old new token text n r is added
    (short_word text (drop end text) end token some letter (omega (arith, run, short)) within short refl word ∙ ap (after (token ∷ [])) (sym same))

pub adds_number : (old new : List Token) (value : ℕ) (text : List ℕ) (end n : ℕ) (r : Result ℕ TokenFault)
    → r ≡ Ok n → new ≡ old ++ t.Number value ∷ [] → tokens_of (drop n text) ≡ tokens_of (drop end text) → 0 < length text → is_letter (get_or text 0 0) ≡ false
    → is_digit (get_or text 0 0) ≡ true → end ≡ run_of is_digit text → end ≤ length text → end ≤ 18 → value ≡ value_of (take end text) → Adds old new r text
adds_number old new value text end n r is added same some not_letter digit run within short number =
    adds old new (t.Number value) text n r is added
    (few_digits text (drop end text) end value some not_letter digit run within short refl number ∙ ap (after (t.Number value ∷ [])) (sym same))
