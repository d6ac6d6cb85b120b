-- A list as it is written: parts that are joined by commas, each an actor by its number, or after an `@` a name and how
-- often.
use Rattle.std.specs.Prelude.{ℕ, Bool, true, false, ◌==◌, ◌&&◌, ◌+◌, ◌-◌, if◌then◌else◌, not, nat_le, List, [], ◌∷◌, length, take, drop, Option, Some, None, option_map, option_and_then, sum_by, position}
use Rattle.std.specs.List.{list_all, list_any, slice_split}
use Rattle.qs_script.specs.audit.tokens.Limits.{longest_name}
use Rattle.qs_script.specs.audit.tokens.Tokens.{is_digit, is_letter, is_name_byte, reserved_words, same, value_of}
use Rattle.qs_played.specs.declared.schedule.actor.Actor.{Actor}
use Rattle.qs_played.specs.declared.schedule.actor.Actor.TheVariants.{Client, Handler}
use Rattle.qs_line.specs.declared.parts.Part.{Part}
use Rattle.qs_line.specs.declared.parts.Who.{Who}
use Rattle.qs_line.specs.declared.parts.Who.TheVariants.{Number, Name}
use Rattle.qs_line.specs.audit.Limits.{most_actors, most_repeats}

-- an actor by its letter, `c` or `h`
abbrev pub actor_by : ℕ → ℕ → Option Actor
actor_by letter number =
    if letter == 99 then Some (Client number) else if letter == 104 then Some (Handler number) else None

-- the actor of a text of one letter and one digit
abbrev pub actor_in : List ℕ → Option Actor
actor_in (letter ∷ digit ∷ []) = if is_digit digit then actor_by letter (digit - 48) else None
actor_in _ = None

abbrev pub is_reserved : List ℕ → Bool
is_reserved text = list_any (λ entry. same text entry.0) reserved_words

-- a name of the language: no reserved word is one
abbrev pub is_name : List ℕ → Bool
is_name [] = false
is_name (b ∷ bs) =
    is_letter b && list_all is_name_byte bs && nat_le (length (b ∷ bs)) longest_name && not (is_reserved (b ∷ bs))

abbrev pub name_in : List ℕ → Option Who
name_in text = if is_name text then Some (Name text) else None

-- decimal digits that write a number from 1 to the limit
abbrev pub is_count : List ℕ → Bool
is_count text = list_all is_digit text && nat_le 1 (value_of text) && nat_le (value_of text) most_repeats

abbrev pub count_in : List ℕ → Option ℕ
count_in text = if is_count text then Some (value_of text) else None

abbrev pub times : ℕ → Who → Part
times count who = record { who = who; count = count }

-- the name of a text that has a `*` at a place, or none, and how often
abbrev pub named_by : List ℕ → Option ℕ → Option Part
named_by text None = option_map (times 1) (name_in text)
named_by text (Some i) =
    option_and_then (λ count. option_map (times count) (name_in (take i text))) (count_in (drop (i + 1) text))

-- a name, and after a `*` how often
abbrev pub named_in : List ℕ → Option Part
named_in text = named_by text (position (λ byte. byte == 42) text)

-- an actor by its number, which stands for itself once
abbrev pub once : Actor → Part
once actor = record { who = Number actor; count = 1 }

-- an `@`
abbrev at_sign : ℕ
at_sign = 64

-- after an `@` a name and how often; without it an actor by its number, and nothing else
abbrev pub part_in : List ℕ → Option Part
part_in [] = None
part_in (b ∷ bs) = if b == at_sign then named_in bs else option_map once (actor_in (b ∷ bs))

-- what some texts stand for, where each stands for one
module _ {A : Type 0} (one : List ℕ → Option A) where
  abbrev pub each_in : List (List ℕ) → Option (List A)
  each_in [] = Some []
  each_in (text ∷ texts) = option_and_then (λ first. option_map (λ rest. first ∷ rest) (each_in texts)) (one text)

-- the parts of some texts, where each is a part
abbrev pub parts_of : List (List ℕ) → Option (List Part)
parts_of texts = each_in part_in texts

-- how many actors they stand for
abbrev pub length_of : List Part → ℕ
length_of parts = sum_by (λ (part : Part). part.count) parts

abbrev pub within_limit : List Part → Option (List Part)
within_limit parts = if nat_le (length_of parts) most_actors then Some parts else None

-- the parts of a text in which they are joined by commas, where they stand for no more actors than the limit
abbrev pub list_in : List ℕ → Option (List Part)
list_in text = option_and_then within_limit (parts_of (slice_split (λ byte. byte == 44) text))

abbrev pub is_handler : Who → Bool
is_handler (Number (Client n)) = false
is_handler (Number (Handler n)) = true
is_handler (Name n) = false

abbrev pub has_handler : List Part → Bool
has_handler parts = list_any (λ (part : Part). is_handler part.who) parts

abbrev pub without_handlers : List Part → Option (List Part)
without_handlers parts = if has_handler parts then None else Some parts

-- the same, where no part is a handler by its number
abbrev pub clients_in : List ℕ → Option (List Part)
clients_in text = option_and_then without_handlers (list_in text)
