use Rattle.std.proofs.Common.{◌≤◌, ◌∙◌, arith, length, subst}
use Rattle.std.specs.Io.KnownBytes.{Consumes}
use Rattle.qs_serve.proofs.Gathering.{all_read, front_alone}
use Rattle.qs_serve.proofs.input.gather.Goals as goal

pub returns-in-Some-clause-bytes : goal.returns-in-Some-clause-bytes
returns-in-Some-clause-bytes g c =
    let within : c.in-Some.n ≤ length c.fill.new.buf = omega (arith, c.in-Some.ensures.within, c.in-Some.ensures.same) in
    let whole = front_alone c.fill.new.buf _ c.in-Some.n c.in-Ok.bytes.len within (c.if-n-len.true ∙ c.len.ensures) in
    let read = subst (Consumes c.args.input.now.remaining c.fill.new.input.remaining) whole c.in-Some.ensures.bytes in
    all_read c.gather_more.result _ _ _ _ c.args.longest read c.gather_more.ensures.more c.gather_more.ensures.fits
