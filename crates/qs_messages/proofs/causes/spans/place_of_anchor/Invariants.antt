-- The anchors before this token were counted.
use Rattle.std.proofs.Common.{◌≡◌, ◌+◌, length, take}
use Rattle.qs_check.specs.anchors.Anchors.{anchors_in}
use Rattle.qs_messages.specs.Spans.{tokens_in}
use Rattle.qs_messages.proofs.causes.spans.place_of_anchor.Given as goal

abbrev pub invariant-loop-place : goal.invariant-loop-place
invariant-loop-place l = l.number ≡ l.left + length (anchors_in (tokens_in (take l.place l.tokens)))
