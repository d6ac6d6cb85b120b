use Rattle.std.proofs.Common.{◌≡◌, OnOk, ap, subst, List}
use Rattle.qs_program.specs.audit.Numbering.{Name}
use Rattle.qs_check.specs.audit.fault_places.Places.{client, blocks_places}
use Rattle.qs_check.specs.audit.fault_places.Variables.{variables_at}
use Rattle.qs_check.proofs.fault_places.Steps.{variables_meet, stepped}
use Rattle.qs_check.proofs.fault_places.walk.check_client.Goals as goal

pub returns-clause-variables : goal.returns-clause-variables
returns-clause-variables c =
    let item = c.args.item.now in
    let begun = (stepped c.args.scope.now c.client.new.self (client item.name) c.in_ok-client.ensures.meets).1 in
    let h = variables_meet c.check_blocks.result c.client.new.self c.check_blocks.new.scope (blocks_places item.blocks) (rw c.as_slice.ensures.same at c.check_blocks.ensures.meets) in
    let P : List Name → Type 0 = λ vs. OnOk c.check_blocks.result (c.check_blocks.new.scope.variables ≡ variables_at vs (blocks_places item.blocks)) in
    subst P (ap (λ s. s.variables) begun) h
