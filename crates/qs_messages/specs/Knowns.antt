-- What is known at a place of a script, by the places of its names.
use Rattle.std.specs.Prelude.{ℕ, ◌+◌, ◌-◌, ◌^◌, min, Bool, ◌&&◌, nat_eq, if◌then◌else◌, List, length, Option, Some, option_map}
use Rattle.std.specs.List.{filter, find, position}
use Rattle.qs_script.specs.declared.tokens.token.Token.{Token}
use Rattle.qs_script.specs.declared.tokens.token.Token.TheVariants as t
use Rattle.qs_script.specs.audit.tokens.Tokens.{same}
use Rattle.qs_messages.specs.declared.causes.known.Declared.{Declared}
use Rattle.qs_messages.specs.declared.causes.known.Known.{Known}
use Rattle.qs_messages.specs.declared.causes.operations.Kind.{Kind}
use Rattle.qs_messages.specs.declared.causes.operations.Kind.TheVariants.{Account, Buffer, Grid}
use Rattle.qs_messages.specs.declared.causes.spans.PlacedToken.{PlacedToken}
use Rattle.qs_messages.specs.Sources.{word_in}

-- the kind that a token names; an account where it names none
abbrev pub kind_named : Option Token → Kind
kind_named (Some t.Buffer) = Buffer
kind_named (Some t.Grid) = Grid
kind_named _ = Account

-- the word stands at a place
abbrev pub stands_at : List ℕ → List PlacedToken → List ℕ → ℕ → Bool
stands_at text tokens word place = same (word_in text tokens place) word

-- a declaration stands in a template; none is called 0
abbrev pub is_of : ℕ → Declared → Bool
is_of template d = nat_eq d.template template

-- it is the declaration of a word there
abbrev pub declares : List ℕ → List PlacedToken → ℕ → List ℕ → Declared → Bool
declares text tokens template word d = is_of template d && stands_at text tokens word d.name

-- the declarations among some that are a template's, in their order
abbrev pub those_of : ℕ → List Declared → List Declared
those_of template ds = filter (is_of template) ds

-- the template whose text this is, counted from 1; 0 outside of all
abbrev pub template_here : Known → ℕ
template_here k = if k.is_template then length k.templates.items else 0

-- what may be named here: in a template formals, elsewhere objects
abbrev pub declared_here : Known → List Declared
declared_here k = if k.is_template then k.formals.items else k.objects.items

abbrev pub declared_elsewhere : Known → List Declared
declared_elsewhere k = if k.is_template then k.objects.items else k.formals.items

-- the declaration of a word here, where there is one
abbrev pub declaration_of : List ℕ → List PlacedToken → Known → List ℕ → Option Declared
declaration_of text tokens k word = find (declares text tokens (template_here k) word) (declared_here k)

-- the number of the template of a word, counted from 1
abbrev pub template_named : List ℕ → List PlacedToken → Known → List ℕ → Option ℕ
template_named text tokens k word =
    option_map (λ n. min (n + 1) (2 ^ 64 - 1)) (position (stands_at text tokens word) k.templates.items)
