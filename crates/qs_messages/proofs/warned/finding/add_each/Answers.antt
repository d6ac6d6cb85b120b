use Rattle.std.proofs.Common.{◌++◌, Option, ap, ◌∙◌}
use Rattle.qs_messages.proofs.Below.{one_more}
use Rattle.qs_messages.specs.declared.warned.certainties.Certainty.{Certainty}
use Rattle.qs_messages.specs.Warnings.{certainty_warnings, certainty_warnings_at}
use Rattle.qs_messages.proofs.warned.finding.add_each.Goals as goal

pub loop-request-preserved : goal.loop-request-preserved
loop-request-preserved c =
    one_more (certainty_warnings_at c.args.client c.args.block c.args.certainties.now) c.args.out.now.items c.loop-request.out.items c.add_certainty.new.out.items c.loop-request.request
    c.loop-request.invariant
    (c.in_ok-add_certainty.ensures.added
    ∙ ap (λ (certainty : Option Certainty). c.loop-request.out.items ++ certainty_warnings c.args.client c.args.block c.loop-request.request certainty) c.certainty_at.ensures.value)
