-- The number so far is that of the digits before this one, cut at the limit.
use Rattle.std.proofs.Common.{◌≡◌, ◌+◌, ◌≤◌, min, take}
use Rattle.qs_script.specs.audit.tokens.Tokens.{value_of}
use Rattle.qs_line.specs.audit.Limits.{most_repeats}
use Rattle.qs_line.proofs.reading.capped_value.Given as goal

abbrev pub invariant-loop-byte : goal.invariant-loop-byte
invariant-loop-byte l = record {
  so_far : l.value ≡ min (value_of (take l.byte-index l.text)) (most_repeats + 1);
  small : l.value ≤ most_repeats + 1;
}
