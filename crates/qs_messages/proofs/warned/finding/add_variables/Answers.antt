use Rattle.qs_messages.proofs.Below.{one_more}
use Rattle.qs_messages.specs.Warnings.{variable_warnings}
use Rattle.qs_messages.proofs.warned.finding.add_variables.Goals as goal

pub loop-variable-preserved : goal.loop-variable-preserved
loop-variable-preserved c =
    one_more (variable_warnings c.args.program.now c.args.client) c.args.out.now.items c.loop-variable.out.items c.add_variable.new.out.items c.loop-variable.variable
    c.loop-variable.invariant c.in_ok-add_variable.ensures.added
