-- Of the tokens before this one it is known whether the list of a block is open after them.
use Rattle.std.proofs.Common.{◌≡◌, ◌-◌}
use Rattle.qs_messages.specs.WarningPlaces.{is_listed_after}
use Rattle.qs_messages.proofs.warned.places.is_listed.Given as goal

abbrev pub invariant-loop-it : goal.invariant-loop-it
invariant-loop-it l = l.listed ≡ is_listed_after l.source.text.now l.source.tokens.now l.fn.from (l.it - l.fn.from)
