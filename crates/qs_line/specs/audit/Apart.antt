-- The settings of a line that do not stand together.
use Rattle.std.specs.Prelude.{List, [], ◌∷◌, ◌++◌, map, codes, Bool, true, false, if◌then◌else◌, ◌&&◌, is_some}
use Rattle.std.specs.List.{list_any}
use Rattle.std.specs.Option.{option_map_or}
use Rattle.std.specs.Str.{bytes_eq}
use Rattle.clap.specs.Words.{Row, Text, first_of}
use Rattle.qs_line.specs.declared.apart.Setting.{Setting}
use Rattle.qs_line.specs.declared.apart.Setting.TheVariants as setting

-- the name of a setting, which stands on a line after `--`
abbrev pub name_of : Setting → Text
name_of setting.Order = codes "order"
name_of setting.Pick = codes "pick"
name_of setting.Rounds = codes "rounds"
name_of setting.Steps = codes "steps"
name_of setting.Queues = codes "queues"
name_of setting.Times = codes "times"
name_of setting.Counts = codes "counts"
name_of setting.Refusals = codes "refusals"
name_of setting.Ends = codes "ends"
name_of setting.Alike = codes "alike"
name_of setting.After = codes "after"
name_of setting.Leads = codes "leads"
name_of setting.Threads = codes "threads"

-- it stands on a line without a value
abbrev pub is_flag : Setting → Bool
is_flag setting.Steps = true
is_flag setting.Queues = true
is_flag setting.Counts = true
is_flag setting.Refusals = true
is_flag setting.Ends = true
is_flag setting.Alike = true
is_flag _ = false

-- clap says `true` of a flag that stands on the line, and `false` of another
abbrev pub flag_at : Text → List Row → Bool
flag_at name rows = option_map_or (λ text. bytes_eq text (codes "true")) (first_of name rows) false

-- a setting stands on the line
abbrev pub stands_at : Setting → List Row → Bool
stands_at s rows = if is_flag s then flag_at (name_of s) rows else is_some (first_of (name_of s) rows)

-- both settings of a pair stand on it
abbrev pub both_stand_at : List Row → Setting × Setting → Bool
both_stand_at rows pair = stands_at pair.0 rows && stands_at pair.1 rows

-- a setting with each of these
abbrev pub with_each : Setting → List Setting → List (Setting × Setting)
with_each s others = map (λ other. (s, other)) others

-- no two of a pair stand together
abbrev pub apart : List (Setting × Setting)
apart =
    with_each setting.Order (setting.Pick ∷ setting.Rounds ∷ [])
    ++ with_each setting.Times (setting.Counts ∷ setting.Refusals ∷ [])
    ++ with_each setting.Alike (setting.Ends ∷ setting.After ∷ setting.Threads ∷ [])
    ++ with_each setting.Leads (setting.After ∷ [])

-- some pair of these stands on the line
unfoldable pub has_apart : List Row → Bool
has_apart rows = list_any (both_stand_at rows) apart
