use Rattle.std.proofs.Common.{◌∙◌, ap}
use Rattle.qs_serve.specs.Due.{fronts_in}
use Rattle.qs_serve.proofs.FrontsDues.{fronts_text, some_of}
use Rattle.qs_serve.proofs.fronts.text_after.Goals as goal

pub returns-in-Ok-text_of_fronts-clause-text : goal.returns-in-Ok-text_of_fronts-clause-text
returns-in-Ok-text_of_fronts-clause-text c =
    fronts_text c.args.format c.args.program.now c.args.blocks c.args.clients.now c.in-Ok.found.items c.in-Ok-text_of_fronts.text.items c.in-Ok.ensures.fronts
    (some_of c.in-Ok.found.items c.as_slice.result.now c.as_slice.ensures.value c.if-is_empty.ensures)
    (c.in-Ok-text_of_fronts.ensures.text ∙ ap (fronts_in c.args.format c.args.program.now) c.as_slice-2.ensures.value)
