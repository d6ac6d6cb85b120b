-- Tokens that stand in a text are within it, and a fault of the text's script stands at one of them. The first goes by
-- induction on the tokens; the second since the anchors of a script are those of the tokens of its text.
use Rattle.std.proofs.Common.{◌≡◌, ℕ, zero, suc, ◌<◌, ◌≤◌, true, List, [], ◌∷◌, length, get_or, take, refl, ap, sym, ◌∙◌, arith, Option, Some, None, unwrap_or, Result, Ok}
use Rattle.std.proofs.lemmas.List.{length-map}
use Rattle.qs_script.specs.declared.tokens.token.Token.{Token}
use Rattle.qs_script.specs.declared.tokens.token.Token.TheVariants.{Semicolon}
use Rattle.qs_script.specs.declared.tokens.lex.TokenFault.{TokenFault}
use Rattle.qs_script.specs.declared.tree.tree.Item.{Item}
use Rattle.qs_script.specs.audit.Reads.{IsScriptText}
use Rattle.qs_check.specs.declared.anchors.finding.Anchored.{Anchored}
use Rattle.qs_check.specs.anchors.Anchors.{IsAnchorAt, anchor_token, anchors_in, is_anchor, script_anchors}
use Rattle.qs_check.specs.anchors.Anchored.{first_anchored}
use Rattle.qs_check.specs.anchors.Blocks.{block_number}
use Rattle.qs_check.proofs.anchors.BlockNumbers.{blocks_have_anchors}
use Rattle.qs_check.proofs.anchors.Tokens.{anchors_are_tokens}
use Rattle.qs_check.proofs.anchors.Within.{first_is_an_anchor}
use Rattle.qs_messages.specs.declared.causes.spans.PlacedToken.{PlacedToken}
use Rattle.qs_check.specs.declared.excess.Excess.{Excess}
use Rattle.qs_messages.specs.CheckTold.{IsRefusalAnchor, IsRefusedAt, block_anchor_of}
use Rattle.qs_messages.specs.Spans.{ArePlaced, Stand, tokens_in}

pub stands_within : (text : List ℕ) (ps : List PlacedToken) (later : Result (List Token) TokenFault) (i : ℕ) (d : PlacedToken) → Stand text ps later → i < length ps
    → ((get_or ps i d).start < (get_or ps i d).end) × ((get_or ps i d).end ≤ length text)
stands_within text [] later i d h within = absurd (omega arith)
stands_within text (p ∷ ps) later zero d h within = (h.2, h.3)
stands_within text (p ∷ ps) later (suc i) d h within = stands_within text ps later i d h.4 (omega arith)

tokens_same : (text : List ℕ) (ts us : List Token) (r : Result (List Token) TokenFault) → r ≡ Ok ts → r ≡ Ok us → ts ≡ us
tokens_same text ts us r h k = cc

-- the tokens that stand in a script's text have as many anchors as the script
pub anchor_count : (text : List ℕ) (ps : List PlacedToken) (items : List Item) → ArePlaced text ps → IsScriptText text items
    → length (anchors_in (tokens_in ps)) ≡ length (script_anchors items)
anchor_count text ps items placed reads =
    let same : tokens_in ps ≡ reads.tokens = tokens_same text (tokens_in ps) reads.tokens _ placed.0 reads.cut in
    ap (λ ts. length (anchors_in ts)) same ∙ ap length (anchors_are_tokens items reads.tokens reads.tree) ∙ length-map (script_anchors items) anchor_token

pub anchor_there : (text : List ℕ) (ps : List PlacedToken) (items : List Item) (first : Anchored) → ArePlaced text ps → IsScriptText text items → first_anchored items ≡ Some first
    → first.anchor < length (anchors_in (tokens_in ps))
anchor_there text ps items first placed reads found =
    omega (arith, anchor_count text ps items placed reads, first_is_an_anchor items first found)

-- the anchor of a block of the script is there too
pub block_there : (text : List ℕ) (ps : List PlacedToken) (items : List Item) (c k number : ℕ) → ArePlaced text ps → IsScriptText text items
    → block_number 0 items c k ≡ Some number → number < length (anchors_in (tokens_in ps))
block_there text ps items c k number placed reads found =
    omega (arith, anchor_count text ps items placed reads, blocks_have_anchors items c k number found)

excess_there : (text : List ℕ) (ps : List PlacedToken) (items : List Item) (found : Option Excess) (number : ℕ) → ArePlaced text ps → IsScriptText text items
    → Some number ≡ block_anchor_of items found → number < length (anchors_in (tokens_in ps))
excess_there text ps items None number placed reads same = absurd (cc same)
excess_there text ps items (Some e) number placed reads same = block_there text ps items e.client e.block number placed reads (sym same)

-- and so is the anchor at which a script is refused
pub refusal_there : (text : List ℕ) (ps : List PlacedToken) (items : List Item) (number : ℕ) → ArePlaced text ps → IsScriptText text items → IsRefusedAt items (Some number)
    → number < length (anchors_in (tokens_in ps))
refusal_there text ps items number placed reads refused = by_first (first_anchored items) refl refused
  where
    by_first : (o : Option Anchored) → first_anchored items ≡ o → IsRefusalAnchor items o (Some number) → number < length (anchors_in (tokens_in ps))
    by_first None found e = excess_there text ps items e.0 number placed reads e.2
    by_first (Some first) found same =
        let number_is : number ≡ first.anchor = ap (λ o. unwrap_or o 0) same in
        omega (arith, anchor_there text ps items first placed reads found, number_is)

-- the token at a place of some, and the tokens before it
token_at : (ps : List PlacedToken) (i : ℕ) (p : PlacedToken) → i < length ps → get_or (tokens_in ps) i Semicolon ≡ (get_or ps i p).token
token_at [] i p within = absurd (omega arith)
token_at (q ∷ ps) zero p within = refl
token_at (q ∷ ps) (suc i) p within = token_at ps i p (omega arith)

taken : (ps : List PlacedToken) (i : ℕ) → take i (tokens_in ps) ≡ tokens_in (take i ps)
taken ps zero = refl
taken [] (suc i) = refl
taken (p ∷ ps) (suc i) = ap (λ ts. p.token ∷ ts) (taken ps i)

-- an anchor before which so many stand
pub anchor_at : (ps : List PlacedToken) (number place : ℕ) (p : PlacedToken) → place < length ps → is_anchor (get_or ps place p).token ≡ true
    → number ≡ length (anchors_in (tokens_in (take place ps))) → IsAnchorAt (tokens_in ps) number place
anchor_at ps number place p within here before = record {
  within = omega (arith, within, length-map ps (λ q. q.token));
  anchor = ap is_anchor (token_at ps place p within) ∙ here;
  before = ap (λ ts. length (anchors_in ts)) (taken ps place) ∙ sym before;
}
