-- What is filled was consumed, each turn filled at least one place, and nothing new has failed.
use Rattle.std.proofs.Common.{◌≡◌, ◌≤◌, ◌+◌, length, take}
use Rattle.std.specs.Io.KnownBytes.{Consumes}
use Rattle.qs_serve.proofs.input.fill.Given as goal

abbrev pub invariant-loop-turn : goal.invariant-loop-turn
invariant-loop-turn g l = record {
  room : length l.buf ≡ length l.initial.buf;
  within : l.filled ≤ length l.buf;
  turns : l._turn ≤ l.filled;
  reads : l.input.reads ≤ l.initial.input.reads + l._turn;
  bytes : Consumes l.initial.input.remaining l.input.remaining (take l.filled l.buf);
  same : l.input.has_failed ≡ l.initial.input.has_failed;
}
