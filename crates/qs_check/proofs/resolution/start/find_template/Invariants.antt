use Rattle.std.proofs.Common.{◌≡◌, drop}
use Rattle.qs_check.specs.audit.resolution.Resolve.{template_called, templates_in}
use Rattle.qs_check.proofs.resolution.start.find_template.Given as goal

abbrev pub invariant-loop-item : goal.invariant-loop-item
invariant-loop-item l = template_called (templates_in l.items) l.name ≡ template_called (templates_in (drop l.item-index l.items)) l.name
