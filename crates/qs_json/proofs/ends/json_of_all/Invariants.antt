-- The ends before this one are there, and their numbers are words.
use Rattle.std.proofs.Common.{◌≡◌, map, take}
use Rattle.std.specs.List.{AllByRecursion}
use Rattle.qs_text.specs.TellApart.{IsEndOfWords}
use Rattle.qs_json.specs.EndsJson.{ends_json}
use Rattle.qs_json.proofs.ends.json_of_all.Given as goal

abbrev pub invariant-loop-standing : goal.invariant-loop-standing
invariant-loop-standing l =
    (map (λ text. text.items) l.texts.items ≡ ends_json l.program (take l.standing-index l.found))
    × AllByRecursion (IsEndOfWords l.program) (take l.standing-index l.found)
