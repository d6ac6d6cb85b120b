-- How far statements came in a trace.
use Rattle.std.specs.Prelude.{ℤ, List, [], ◌∷◌, Option, Some, None}
use Rattle.qs_objects.specs.declared.held.Event.{Event}
use Rattle.qs_meaning.specs.audit.Solo.{value_of}
use Rattle.qs_json.specs.audit.Replay.{Replay}
use Rattle.qs_json.specs.declared.replay.Reached.{Reached}
use Rattle.qs_json.specs.declared.replay.Reached.TheVariants.{End, Leave, Request}

-- what is left of a replay whose statements came so far
abbrev pub goes_on : Reached → Replay → Replay → Replay
goes_on End next leaves l es = next l es
goes_on Leave next leaves l es = leaves l es
goes_on Request next leaves l es = l

-- the reply to the next request of a trace
abbrev pub next_reply : List Event → Option ℤ
next_reply [] = None
next_reply (e ∷ es) = Some (value_of e.reply)
