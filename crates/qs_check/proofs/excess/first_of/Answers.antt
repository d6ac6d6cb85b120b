use Rattle.std.proofs.Common.{◌≤◌, List, subst, MatchOption}
use Rattle.qs_program.specs.audit.Limits.{most_requests, most_steps}
use Rattle.qs_program.specs.audit.Program.{ClientShape}
use Rattle.qs_check.specs.declared.excess.Measure.TheVariants.{Load, Weight}
use Rattle.qs_check.specs.Checked.{shape_of}
use Rattle.qs_check.specs.Excess.{counted_in, IsPassedBy}
use Rattle.qs_check.proofs.Passing.{after_load, first_load}
use Rattle.qs_check.proofs.excess.first_of.Goals as goal

pub returns-in-Some : goal.returns-in-Some
returns-in-Some c = record {
  first = first_load (shape_of c.args.resolved.now) c.in-Some.excess
      (subst (λ (cs : List ClientShape). IsPassedBy Load cs c.in-Some.excess) c.as_slice-clients.ensures.value c.in-Some.ensures.passed);
}

pub returns-in-None : goal.returns-in-None
returns-in-None c =
    let all = c.as_slice-clients.ensures.value in
    let load = subst (λ (cs : List ClientShape). counted_in Load cs ≤ most_requests) all c.in-None.ensures.passed in
    let weight = subst
    (λ (cs : List ClientShape). MatchOption c.pass-in-None.result (counted_in Weight cs ≤ most_steps) (IsPassedBy Weight cs))
    all c.pass-in-None.ensures.passed in
    record { first = after_load (shape_of c.args.resolved.now) c.pass-in-None.result load weight }
