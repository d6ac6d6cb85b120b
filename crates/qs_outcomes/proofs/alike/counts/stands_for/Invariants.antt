use Rattle.std.proofs.Common.{◌≤◌, ◌-◌, ◌^◌, length}
use Rattle.qs_outcomes.specs.Outcomes.{outcome_at}
use Rattle.qs_alike.specs.Texts.{classes_in}
use Rattle.qs_outcomes.proofs.alike.Counting.{CountsFrom}
use Rattle.qs_outcomes.proofs.alike.counts.stands_for.Given as goal

abbrev pub invariant-loop-done : goal.invariant-loop-done
invariant-loop-done l = record {
  counted : CountsFrom (classes_in l.classes) (length l.program.clients - l.done) (outcome_at l.standing) l.count;
  few : l.count ≤ 8 ^ l.done;
}
