use Rattle.std.proofs.Common.{◌++◌, codes}
use Rattle.qs_json.specs.audit.Pieces.{first_field, quoted}
use Rattle.qs_steps.specs.Forms.{request_in}
use Rattle.qs_steps.specs.declared.wanted.Form.TheVariants as form
use Rattle.qs_steps.proofs.Queues.{joined, on_ok}
use Rattle.qs_steps.proofs.plain_queues.put_asked.Goals as goal

pub returns : goal.returns
returns c =
    let out = c.args.out.now.items in
    let one = c.put_string.new.out.items in
    let three = c.put_request_in.new.out.items in
    let kind = first_field (codes "item") (quoted c.args.kind.now) in
    let name = codes ",\"request\":" in
    let request = request_in form.Json c.args.program.now c.args.request.now in
    let field = joined one c.put.new.out.items three name request c.in_ok-put.ensures.ok c.in_ok-put_request_in.ensures.ok in
    record {
      ok = on_ok c.put-2.result c.put-2.ensures.ok (λ last. joined out three c.put-2.new.out.items (kind ++ (name ++ request)) (codes "}") (joined out one three kind (name ++ request) c.in_ok-put_string.ensures.ok field) last);
    }
