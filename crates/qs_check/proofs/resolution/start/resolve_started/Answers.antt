use Rattle.std.proofs.Common.{◌≡◌, None, sym}
use Rattle.qs_check.specs.audit.fault_places.Places.{fault_of_text}
use Rattle.qs_check.proofs.resolution.TemplateSearch.{IsFormedTemplate, all_formed, called_with}
use Rattle.qs_check.proofs.resolution.start.resolve_started.Goals as goal

pub start-requires-clause-formed : goal.start-requires-clause-formed
start-requires-clause-formed c = called_with IsFormedTemplate _ c.copied.result c.in-Some.template.now (all_formed c.args.items.now c.requires.form) (sym c.in-Some.ensures.found)

pub start-requires-clause-text : goal.start-requires-clause-text
start-requires-clause-text c = called_with (λ t. fault_of_text t ≡ None) _ c.copied.result c.in-Some.template.now c.requires.texts (sym c.in-Some.ensures.found)
