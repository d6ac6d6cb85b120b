use Rattle.std.proofs.Common.{◌∙◌, ap₂}
use Rattle.std.proofs.lemmas.List.{get_or_default}
use Rattle.qs_json.specs.audit.RunJson.{event_json, no_event, request_json}
use Rattle.qs_text.proofs.Parts.{named}
use Rattle.qs_json.proofs.Elements.{one_element_more}
use Rattle.qs_json.proofs.events.put_events.Goals as goal

pub loop-place-preserved : goal.loop-place-preserved
loop-place-preserved c =
    let trace = c.args.trace.now in
    let place = c.loop-place.place in
    let here = c.index-trace-place.is ∙ get_or_default trace place _ no_event c.loop-place-test.true in
    one_element_more (request_json c.args.program.now trace c.args.fates.now) place c.loop-place.invariant c.in_ok-put_comma.ensures.ok
    (named (ap₂ (event_json c.args.program.now) here c.fate_at.ensures.fate) c.in_ok-put_event.ensures.ok)
