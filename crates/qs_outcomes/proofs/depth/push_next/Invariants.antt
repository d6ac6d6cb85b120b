use Rattle.std.proofs.Common.{◌≡◌, ◌-◌}
use Rattle.qs_outcomes.proofs.Common.{classes_in, rows_in}
use Rattle.qs_outcomes.specs.Search.{IsLonger}
use Rattle.qs_outcomes.proofs.depth.push_next.Given as goal

abbrev pub invariant-loop-back : goal.invariant-loop-back
invariant-loop-back l = record {
  longer : IsLonger l.search.program.now (classes_in l.search.classes.now) l.search.front.now (rows_in l.seen.keys) l.standing (l.clients - l.back)
      l.initial.stack.items l.stack.items;
  base : l.scratch.base ≡ l.initial.scratch.base;
  copy : l.scratch.copy ≡ l.initial.scratch.copy;
}
