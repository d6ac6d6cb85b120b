use Rattle.std.proofs.Common.{◌++◌, ap, codes, sym, ◌∙◌, None}
use Rattle.qs_steps.proofs.Names.{does_json, effect_json, field, ticket_field}
use Rattle.qs_steps.specs.Marks.{marked}
use Rattle.qs_steps.specs.declared.wanted.Form.TheVariants as form
use Rattle.qs_steps.proofs.Queues.{joined, on_ok}
use Rattle.qs_steps.proofs.plain_lines.put_effect_json.Goals as goal

pub returns-in_ok-put_does_ticket-in-Runs : goal.returns-in_ok-put_does_ticket-in-Runs
returns-in_ok-put_does_ticket-in-Runs c =
    let p = c.args.program.now in
    let o = c.args.object.now in
    let out = c.args.out.now.items in
    let head = does_json (codes "runs") ++ ticket_field p c.in-Runs.ticket in
    let run = field (codes "request") (marked form.Json p o c.in-Runs.request None) in
    record {
      ok = on_ok c.put_run_json.result c.put_run_json.ensures.ok (λ last. joined out _ _ head run c.in_ok-put_does_ticket-in-Runs.ensures.ok last
          ∙ ap (λ e. out ++ effect_json p o e) (sym c.in-Runs.is));
    }

pub returns-in_ok-put_does_ticket-in-Answers : goal.returns-in_ok-put_does_ticket-in-Answers
returns-in_ok-put_does_ticket-in-Answers c =
    let p = c.args.program.now in
    let o = c.args.object.now in
    let out = c.args.out.now.items in
    let head = does_json (codes "answers") ++ ticket_field p c.in-Answers.ticket in
    let run = field (codes "request") (marked form.Json p o c.in-Answers.request c.in-Answers.reply) in
    record {
      ok = on_ok c.put_run_json-in-Answers.result c.put_run_json-in-Answers.ensures.ok (λ last. joined out _ _ head run c.in_ok-put_does_ticket-in-Answers.ensures.ok last
          ∙ ap (λ e. out ++ effect_json p o e) (sym c.in-Answers.is));
    }
