use Rattle.std.proofs.Common.{◌⊎◌, [], List, Vec, map, subst, sym}
use Rattle.std.specs.Global.{Global}
use Rattle.qs_line.specs.audit.Line.{fronts}
use Rattle.qs_line.specs.Line.{request_of}
use Rattle.qs_line.specs.declared.parts.Part.{Part}
use Rattle.qs_serve.specs.Due.{IsDueOfProgram, IsDueWithoutThreads, IsOutOfMemory}
use Rattle.qs_serve.proofs.Dues.{due_with_any}
use Rattle.qs_serve.proofs.due.due_of_program.Goals as goal

pub returns-in-Fronts-clause-due : goal.returns-in-Fronts-clause-due
returns-in-Fronts-clause-due g c =
    let p = c.args.program.now in
    let lines = c.args.lines.now in
    let due = c.due_of_fronts.result in
    let parts : Vec Part Global → List Part = λ order. order.items in
    let asked = λ (orders : List (Vec Part Global)). fronts c.in-Fronts.format c.in-Fronts.blocks c.in-Fronts.limit (map parts orders) in
    subst (λ settings. IsDueWithoutThreads (request_of settings) lines p due) (sym c.in-Fronts.is)
    (due_with_any (asked c.in-Fronts.orders.items) [] lines p due tt
    (subst (λ orders. IsOutOfMemory due ⊎ IsDueOfProgram (asked orders) [] p due) c.as_slice-in-Fronts.ensures.value c.due_of_fronts.ensures.due))
