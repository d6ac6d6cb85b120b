use Rattle.std.proofs.Common.{sym, ◌∙◌}
use Rattle.qs_questions.proofs.UnknownPlaces.{has_values, none_unknown}
use Rattle.qs_questions.proofs.unknown.first_unknown_in_sum.Goals as goal

pub returns-clause-all : goal.returns-clause-all
returns-clause-all c = (
  λ h. has_values c.args.program.now c.args.sum.now (sym c.first_unknown_of.ensures.first ∙ h),
  λ h. c.first_unknown_of.ensures.first ∙ none_unknown c.args.program.now c.args.sum.now h,
)
