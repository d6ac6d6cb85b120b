-- Where the names of a checked script stand, by the numbers that a program has for them.
use Rattle.std.specs.Prelude.{ℕ, zero, suc, ◌+◌, ◌-◌, ◌^◌, min, Bool, true, false, not, ◌&&◌, ◌||◌, nat_lt, if◌then◌else◌, List, length, Option, Some, None, option_map, slice_get, unwrap_or}
use Rattle.std.specs.List.{filter, find, range_with_len}
use Rattle.qs_script.specs.declared.tokens.token.Token.{Token}
use Rattle.qs_script.specs.declared.tokens.token.Token.TheVariants as t
use Rattle.qs_script.specs.audit.tokens.Tokens.{same}
use Rattle.qs_messages.specs.declared.causes.spans.PlacedToken.{PlacedToken}
use Rattle.qs_messages.specs.Sources.{token_in, word_in}
use Rattle.qs_messages.specs.declared.warned.places.TokenKind.{TokenKind}
use Rattle.qs_messages.specs.declared.warned.places.TokenKind.TheVariants.{Object, Client, Template, Separate, Brace, Assign, Dot}

abbrev pub is_of_kind : TokenKind → Option Token → Bool
is_of_kind Object (Some t.Object) = true
is_of_kind Client (Some t.Client) = true
is_of_kind Template (Some t.Template) = true
is_of_kind Separate (Some t.Separate) = true
is_of_kind Brace (Some t.OpenBrace) = true
is_of_kind Assign (Some t.Assign) = true
is_of_kind Dot (Some t.Dot) = true
is_of_kind _ _ = false

abbrev pub is_name : Option Token → Bool
is_name (Some (t.Name n)) = true
is_name _ = false

-- the list of a block is open after a token, by whether it was before
abbrev pub listed_past : Option Token → Bool → Bool
listed_past token listed = is_of_kind Separate token || (not (is_of_kind Brace token) && listed)

-- the places from one up to another
abbrev pub places : ℕ → ℕ → List ℕ
places from end = range_with_len from (end - from)

-- the place after a place
abbrev pub next : ℕ → ℕ
next place = min (place + 1) (2 ^ 64 - 1)

-- the first place from one on at which something holds; past the last token, where it holds at none
abbrev pub first_from : (ℕ → Bool) → ℕ → ℕ → ℕ
first_from holds from count = unwrap_or (find holds (places from count)) count

-- the place of a number at which something holds, from a place on
abbrev pub numbered : (ℕ → Bool) → ℕ → ℕ → ℕ → Option ℕ
numbered holds from count number = slice_get (filter holds (places from count)) number

-- the place after a place; past the last token, where there is none
abbrev pub after : Option ℕ → ℕ → ℕ
after place count = unwrap_or (option_map next place) count

-- the place before a place; past the last token, where there is none
abbrev pub before : Option ℕ → ℕ → ℕ
before None count = count
before (Some place) count = place - 1

abbrev pub is_kind_at : List PlacedToken → TokenKind → ℕ → Bool
is_kind_at tokens kind place = is_of_kind kind (token_in tokens place)

module _ (text : List ℕ) (tokens : List PlacedToken) where
  -- the name after the word `object`, or `client`, of that number
  abbrev pub opened_at : TokenKind → ℕ → ℕ
  opened_at opening number = after (numbered (is_kind_at tokens opening) 0 (length tokens) number) (length tokens)

  abbrev pub object_at : ℕ → ℕ
  object_at number = opened_at Object number

  abbrev pub client_at : ℕ → ℕ
  client_at number = opened_at Client number

  -- the name of the template that a word names
  abbrev pub is_template_of : List ℕ → ℕ → Bool
  is_template_of word p = is_kind_at tokens Template p && same (word_in text tokens (next p)) word

  abbrev pub template_at : List ℕ → ℕ
  template_at word = after (find (is_template_of word) (places 0 (length tokens))) (length tokens)

  -- the first brace from a place on
  abbrev pub brace_at : ℕ → ℕ
  brace_at from = first_from (is_kind_at tokens Brace) from (length tokens)

  -- the name before the blocks of a client: its own, or that of its template
  abbrev pub blocks_name : ℕ → ℕ
  blocks_name name =
      if is_kind_at tokens Assign (next name) then template_at (word_in text tokens (next (next name))) else name

  -- the brace with which the blocks of a client begin
  abbrev pub blocks_at : ℕ → ℕ
  blocks_at client = brace_at (blocks_name (client_at client))

  -- whether the names after so many tokens from a place on stand in the list of a block: a `separate` begins it, and a
  -- `{` ends it
  abbrev pub is_listed_after : ℕ → ℕ → Bool
  is_listed_after from zero = false
  is_listed_after from (suc n) = listed_past (token_in tokens (from + n)) (is_listed_after from n)

  -- whether a place stands in the list of a block, of blocks that begin at a place
  abbrev pub is_listed : ℕ → ℕ → Bool
  is_listed from place = is_listed_after from (place - from)

  -- the token stands beside a dot, as the object and the operation of a request do
  abbrev pub is_beside_dot : ℕ → Bool
  is_beside_dot place = (nat_lt 0 place && is_kind_at tokens Dot (place - 1)) || is_kind_at tokens Dot (next place)

  -- a variable of that name stands there, in blocks that begin at a place
  abbrev pub is_variable : ℕ → List ℕ → ℕ → Bool
  is_variable from word place =
      is_name (token_in tokens place) && same (word_in text tokens place) word && not (is_beside_dot place)
      && not (is_listed from place)

  -- the first place at which a client's blocks have a variable of that name
  abbrev pub variable_at : ℕ → List ℕ → ℕ
  variable_at client word = first_from (is_variable (blocks_at client) word) (blocks_at client) (length tokens)

  -- the first name of the list of a client's block
  abbrev pub list_at : ℕ → ℕ → ℕ
  list_at client block =
      after (numbered (is_kind_at tokens Separate) (blocks_at client) (length tokens) block) (length tokens)

  -- a name in the list of a client's block
  abbrev pub listed_at : ℕ → ℕ → List ℕ → ℕ
  listed_at client block word =
      first_from (λ p. same (word_in text tokens p) word) (list_at client block) (length tokens)

  -- the object of a request: the name before the dot of that number in a client's block. A block has a dot for each of
  -- its requests, and its list has none
  abbrev pub request_at : ℕ → ℕ → ℕ → ℕ
  request_at client block request =
      before (numbered (is_kind_at tokens Dot) (list_at client block) (length tokens) request) (length tokens)
