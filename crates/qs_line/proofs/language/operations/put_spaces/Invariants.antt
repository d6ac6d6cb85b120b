-- So many spaces were put as turns were taken.
use Rattle.std.proofs.Common.{◌≡◌, ◌++◌}
use Rattle.std.specs.Prelude.{replicate}
use Rattle.qs_line.proofs.language.operations.put_spaces.Given as goal

abbrev pub invariant-loop-space : goal.invariant-loop-space
invariant-loop-space l = l.out.items ≡ l.initial.out.items ++ replicate l._space 32
