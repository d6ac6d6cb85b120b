-- All kinds of error that clap lists for a line come to the same, help or version or a refusal: each step of its walk
-- lists one kind, but for a stray word, where both are refusals, and for the word `help`, which this command leaves
-- out.
use Rattle.std.proofs.Common.{◌≡◌, ℕ, Bool, zero, suc, List, [], ◌∷◌, Option, Some, None, true, false, refl, ap, inl, inr}
use Rattle.std.specs.Prelude.{⊤, ◌&&◌, ◌||◌, not, length, drop, find, is_some, encode_utf8, slice_get, codes, if◌then◌else◌}
use Rattle.std.specs.Str.{bytes_eq, chars}
use Rattle.std.specs.Option.{option_map_or}
use Rattle.clap.specs.Faults.{action_fault, bundle_step_fault, built_fault, bundle_fault, check_fault, count_fault, default_fault, defaults_fault, entered_fault, fault_of, flag_word_fault, flags_fault, level_fault, long_fault, option_fault, other_fault, positional_fault, react_fault, settle_fault, short_fault, step_fault, stray_fault, turn_fault, use_fault, walk_fault}
use Rattle.clap.specs.Kinds.{IsAmong, Kinds, or_else, range_kinds, request_kinds, values_kinds}
use Rattle.clap.specs.Simple.{App, Shape, argument_words, built, entered, label_of, names_of}
use Rattle.clap.specs.Lexer.{long_of, short_of}
use Rattle.clap.specs.Facts.{parser_of_value, unwrap_or_range}
use Rattle.clap.specs.Walk.{Held, Names, Row, Rule, Step, Text, Waiting, Walk, idle, option, positional, next, trailing, subcommand, value, action_of, subcommand_met, values_or_missing, walked, with_default, answers_to, arg_by_id, arg_by_index, arg_by_long, arg_by_short, attached_value, finished, has_row, is_empty, is_pending, most_values, nothing_held, reacted, settled, takes_several, takes_values, walk, walk_from, word_met}
use Rattle.clap.specs.declared.builder.ArgAction.{ArgAction}
use Rattle.clap.specs.declared.builder.ArgAction.TheVariants as action
use Rattle.clap.specs.declared.builder.ValueParser.{ValueParser}
use Rattle.clap.specs.declared.error.kind.ErrorKind.{ErrorKind}
use Rattle.clap.specs.declared.error.kind.ErrorKind.TheVariants as kind
use Rattle.qs_line.specs.audit.Command.{qs_app}
use Rattle.qs_line.specs.Line.{line_of_kind}

-- each kind comes to what the first comes to
abbrev pub SayAlike : Kinds → Type 0
SayAlike [] = ⊤
SayAlike (k ∷ ks) = (other : ErrorKind) → IsAmong other ks → line_of_kind other ≡ line_of_kind k

-- the same, under a name of its own, by which search finds the kinds
pub record Alike (kinds : Kinds) : Type 0 where
  pub each : SayAlike kinds

none : Alike []
none = record { each = tt }

one : (k : ErrorKind) → Alike (k ∷ [])
one k = record { each = λ other among. absurd among }

either : (b : Bool) {xs ys : Kinds} → Alike xs → Alike ys → Alike (if b then xs else ys)
either true x y = x
either false x y = y

in_turn : (xs ys : Kinds) → Alike xs → Alike ys → Alike (or_else xs ys)
in_turn [] ys x y = y
in_turn (k ∷ ks) ys x y = x

of_option : {X : Type 0} (f : X → Kinds) (o : Option X) (d : Kinds) → ((x : X) → Alike (f x)) → Alike d → Alike (option_map_or f o d)
of_option f None d each rest = rest
of_option f (Some x) d each rest = each x

values : (again : Bool) (p : ValueParser) (vs : List Text) → Alike (values_kinds again p vs)
values again p [] = none
values again p (v ∷ vs) = in_turn _ _ (either _ none (one _)) (values again p vs)

ranges : (least most n : ℕ) → Alike (range_kinds least most n)
ranges least most n = search (either, one, none)

requests : (a : ArgAction) → Alike (request_kinds a)
requests action.Help = one _
requests action.HelpShort = one _
requests action.HelpLong = one _
requests action.Version = one _
requests _ = none

counts : (a : Rule) (vs : List Text) (rows : List Row) → Alike (count_fault a vs rows)
counts a [] rows = either _ none (one _)
counts a (v ∷ vs) rows = values _ _ (v ∷ vs)

actions : (act : ArgAction) (again : Bool) (a : Rule) (vs : List Text) (rows : List Row) → Alike (action_fault act again a vs rows)
actions action.Set again a vs rows = in_turn _ _ (either _ (one _) none) (values _ _ vs)
actions action.SetTrue again a vs rows = in_turn _ _ (either _ (one _) none) (values _ _ vs)
actions action.SetFalse again a vs rows = in_turn _ _ (either _ (one _) none) (values _ _ vs)
actions action.Append again a vs rows = values _ _ vs
actions action.Count again a vs rows = counts a vs rows
actions _ again a vs rows = one _

uses : (again : Bool) (a : Rule) (vs : List Text) (rows : List Row) → Alike (use_fault again a vs rows)
uses again a vs rows = in_turn _ _ (ranges (unwrap_or_range a.range).start_inclusive (most_values a) (length vs)) (actions (action_of a) again a (values_or_missing a vs) rows)

settles : (c : List Rule) (again : Bool) (h : Held) → Alike (settle_fault c again h)
settles c again h = of_option (λ p. option_map_or (λ a. use_fault again a p.1 h.rows) (arg_by_id c p.0) []) h.pending []
    (λ p. of_option (λ a. use_fault again a p.1 h.rows) (arg_by_id c p.0) [] (λ a. uses again a p.1 h.rows) none) none

reacts : (c : List Rule) (again : Bool) (a : Rule) (vs : List Text) (h : Held) → Alike (react_fault c again a vs h)
reacts c again a vs h = in_turn _ _ (settles c again h) (uses again a vs (settled c h).rows)

options : (c : List Rule) (again : Bool) (a : Rule) (v : Option Text) (h : Held) → Alike (option_fault c again a v h)
options c again a (Some v) h = reacts c again a (v ∷ []) h
options c again a None h = settles c again h

longs : (c : List Rule) (again : Bool) (a : Option Rule) (v : Option Text) (h : Held) → Alike (long_fault c again a v h)
longs c again None v h = one kind.UnknownArgument
longs c again (Some a) v h = either (takes_values a) (options c again a v h) (either (is_some v) (one kind.TooManyValues) (reacts c again a [] h))

shorts : (c : List Rule) (again : Bool) (a : Option Rule) (rest : Text) (h : Held) (after : Held → Kinds) → ((g : Held) → Alike (after g))
    → Alike (short_fault c again a rest h after)
shorts c again None rest h after each = one kind.UnknownArgument
shorts c again (Some a) rest h after each = either (takes_values a) (options c again a (attached_value rest) h) (in_turn _ _ (reacts c again a [] h) (each (reacted c a [] h)))

bundle_steps : (c : List Rule) (again : Bool) (x : Option ℕ) (flags : Text) (skip : ℕ) (h : Held) (after : Text → ℕ → Held → Kinds)
    → ((t : Text) (n : ℕ) (g : Held) → Alike (after t n g)) → Alike (bundle_step_fault c again x flags skip h after)
bundle_steps c again None flags skip h after each = none
bundle_steps c again (Some x) flags zero h after each =
    let rest = drop (length (encode_utf8 x)) flags in
    shorts c again (arg_by_short c x) rest h (after rest 0) (each rest 0)
bundle_steps c again (Some x) flags (suc skip) h after each = each (drop (length (encode_utf8 x)) flags) skip h

flags_alike : (c : List Rule) (again : Bool) (k : ℕ) (flags : Text) (skip : ℕ) (h : Held) → Alike (flags_fault c again k flags skip h)
unfolding flags_fault
flags_alike c again zero flags skip h = none
flags_alike c again (suc k) flags skip h = bundle_steps c again (slice_get (chars flags) 0) flags skip h (flags_fault c again k) (flags_alike c again k)

flag_words : (c : List Rule) (again : Bool) (parts : Option (Text × Option Text)) (word : Text) (h : Held) → Alike (flag_word_fault c again parts word h)
flag_words c again (Some p) word h = longs c again (arg_by_long c p.0) p.1 h
flag_words c again None word h =
    of_option (λ flags. bundle_fault c again flags h) (short_of word) [] (λ flags. flags_alike c again (length flags) flags h.skip (record h { skip = 0 })) none

-- no word is the word `help`
abbrev HasNoHelpWord : Shape → Names → Type 0
HasNoHelpWord s names = (waiting : Waiting) (word : Text) (h : Held) → Alike (other_fault s (subcommand_met names waiting word) word h)

others : (s : Shape) (word : Text) (h : Held) → Alike (other_fault s None word h)
others s word h = either (bytes_eq word (45 ∷ 45 ∷ [])) none (flag_words s.rules s.args_override_self (long_of word) word h)

stray : Alike (kind.UnknownArgument ∷ kind.InvalidSubcommand ∷ [])
stray = record { each = λ other among. elim among [ inl same ↦ ap line_of_kind same | inr never ↦ absurd never ] }

steps : (s : Shape) (position : ℕ) (h : Held) (step : Step) → Alike (step_fault s position h step)
steps s position h (next waiting) = none
steps s position h (trailing n) = none
steps s position h (subcommand name) = none
steps s position h value = of_option (λ a. positional_fault s.rules s.args_override_self a h) (arg_by_index s.rules position) (stray_fault s)
    (λ a. either (is_pending a h.pending && takes_several a) none (settles s.rules s.args_override_self h))
    (either s.is_leaf (one kind.UnknownArgument) stray)

turns : (s : Shape) (names : Names) → HasNoHelpWord s names → (w : Walk) (word : Text) → Alike (turn_fault s names w word)
turns s names no_help w word =
    let met = word_met s.rules names w.is_trailing w.waiting w.position word w.held in
    either (is_some w.stopped) none (in_turn _ _ (either w.is_trailing none (no_help w.waiting word w.held)) (steps s w.position met.0 met.1))

walks : (s : Shape) (names : Names) → HasNoHelpWord s names → (w : Walk) (words : List Text) → Alike (walk_fault s names w words)
unfolding walk_fault
walks s names no_help w [] = none
walks s names no_help w (word ∷ rest) = in_turn _ _ (turns s names no_help w word) (walks s names no_help (walked s.rules names w word) rest)

default : (rows : List Row) (a : Rule) → Alike (default_fault rows a)
default rows a = either (has_row a.id rows || is_empty a.defaults) none
    (in_turn _ _ (requests (action_of a)) (values a.ignore_case (parser_of_value a.parser) a.defaults))

defaults : (rows : List Row) (rules : List Rule) → Alike (defaults_fault rows rules)
unfolding defaults_fault
defaults rows [] = none
defaults rows (a ∷ rest) = in_turn _ _ (default rows a) (defaults (with_default rows a) rest)

checks : (s : Shape) (rows : List Row) (has : Bool) → Alike (check_fault s rows has)
checks s rows has = search (either, one, none)

levels : (s : Shape) (names : Names) → HasNoHelpWord s names → (h : Held) (words : List Text) (has : Bool) (below : Kinds) → Alike below
    → Alike (level_fault s names h words has below)
levels s names no_help h words has below alike =
    let end = (walk s.rules names h words).held in
    in_turn _ _ (walks s names no_help (walk_from h) words)
    (in_turn below _ alike (in_turn _ _ (settles s.rules s.args_override_self end)
    (in_turn _ _ (defaults (settled s.rules end).rows s.rules) (checks s (finished s.rules end) has))))

leaf_has_no_help : (s : Shape) → HasNoHelpWord s []
leaf_has_no_help s idle word h = others s word h
leaf_has_no_help s (option id) word h = others s word h
leaf_has_no_help s positional word h = others s word h

entereds : (a : App) (stop : Option (Text × List Text)) → Alike (entered_fault a stop)
entereds a stop =
    of_option (λ p. option_map_or (λ s. level_fault s [] nothing_held p.1 false []) (find (λ s. answers_to p.0 (label_of s)) a.subs) []) stop []
    (λ p. of_option (λ s. level_fault s [] nothing_held p.1 false []) (find (λ s. answers_to p.0 (label_of s)) a.subs) []
    (λ s. levels s [] (leaf_has_no_help s) nothing_held p.1 false [] none) none) none

neither : (b : Bool) (xs : Kinds) → Alike (if b && not true then xs else [])
neither true xs = none
neither false xs = none

met_by : (s : Shape) → s.disable_help_subcommand ≡ true → (met : Option Text) (word : Text) (h : Held) → Alike (other_fault s met word h)
met_by s off None word h = others s word h
met_by s off (Some name) word h = rw off (neither (bytes_eq name (codes "help")) _)

builts : (a : App) → a.top.disable_help_subcommand ≡ true → (h : Held) (words : List Text) → Alike (built_fault a h words)
builts a off h words =
    let stop = (walk a.top.rules (names_of a) h words).stopped in
    levels a.top (names_of a) (λ waiting word g. met_by a.top off (subcommand_met (names_of a) waiting word) word g) h words
    (is_some (entered a stop)) (entered_fault a stop) (entereds a stop)

pub qs_alike : (words : List Text) → Alike (fault_of qs_app words)
qs_alike words = builts (built qs_app) refl nothing_held (argument_words qs_app words)
