use Rattle.std.proofs.Common.{◌≡◌, ◌∙◌, ◌++◌, ◌≤◌, List, length, ap, sym, subst, None}
use Rattle.std.specs.List.{AllByRecursion}
use Rattle.qs_objects.specs.declared.object.Kind.{Kind}
use Rattle.qs_program.specs.audit.Numbering.{Name}
use Rattle.qs_program.specs.audit.Limits.{most_variables}
use Rattle.qs_check.specs.audit.fault_places.Places.{scope_or_fault, start, script_places}
use Rattle.qs_check.specs.audit.resolution.Resolve.{clients_of, names_of, templates_in}
use Rattle.qs_check.specs.resolution.Resolve.{variable_lists}
use Rattle.qs_check.specs.audit.Checked.{first_fault}
use Rattle.qs_check.proofs.Soundness.{walked}
use Rattle.qs_check.proofs.checker.resolve_from.Goals as goal

pub numbered-requires-clause-objects : goal.numbered-requires-clause-objects
numbered-requires-clause-objects c =
    let w = walked c.args.items.now c.check_items.new.scope (rw c.requires.start at c.in_ok-check_items.ensures.meets) in
    w.few_objects

pub numbered-requires-clause-texts : goal.numbered-requires-clause-texts
numbered-requires-clause-texts c =
    let w = walked c.args.items.now c.check_items.new.scope (rw c.requires.start at c.in_ok-check_items.ensures.meets) in
    w.faultless

pub numbered-requires-clause-variables : goal.numbered-requires-clause-variables
numbered-requires-clause-variables c =
    c.in_ok-check_items.ensures.variables ∙ ap (λ (ls : List (List Name)). ls ++ variable_lists c.args.items.now) c.requires.none

pub numbered-requires-clause-limit : goal.numbered-requires-clause-limit
numbered-requires-clause-limit c =
    let w = walked c.args.items.now c.check_items.new.scope (rw c.requires.start at c.in_ok-check_items.ensures.meets) in
    let lists : c.check_items.new.variables.items ≡ variable_lists c.args.items.now =
    c.in_ok-check_items.ensures.variables ∙ ap (λ (ls : List (List Name)). ls ++ variable_lists c.args.items.now) c.requires.none in
    let P : List (List Name) → Type 0 = λ ls. AllByRecursion (λ v. length v ≤ most_variables) ls in
    subst P (sym lists) w.few_variables

pub returns : goal.returns
returns c =
    let w = walked c.args.items.now c.check_items.new.scope (rw c.requires.start at c.in_ok-check_items.ensures.meets) in
    let none : first_fault (scope_or_fault start (script_places c.args.items.now)) None ≡ None = ap (λ m. first_fault m None) w.met_all in
    let clients =
    c.in_ok-numbered.ensures.clients ∙ ap (λ (ns : List Name). clients_of (templates_in c.args.items.now) ns c.check_items.new.scope.kinds c.args.items.now) w.objects ∙ ap (λ (ks : List Kind). clients_of (templates_in c.args.items.now) (names_of c.args.items.now) ks c.args.items.now) w.kinds in
    record { text = (none, λ i. record { objects = c.in_ok-numbered.ensures.objects i; clients = clients i }) }
