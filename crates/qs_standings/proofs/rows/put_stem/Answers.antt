use Rattle.std.proofs.Common.{◌≡◌, ap, arith, length, ◌∙◌, get_or, take}
use Rattle.qs_program.specs.audit.Program.{client_at}
use Rattle.qs_standings.specs.Rows.{named_before, overwritten}
use Rattle.qs_standings.proofs.NextRows.{whole}
use Rattle.qs_standings.proofs.rows.put_stem.Goals as goal

pub returns : goal.returns
returns c =
    let p = c.args.program.now in
    let stem = named_before p 0 (length p.clients) in
    let end : get_or c.args.starts.now c.clients.result 0 ≡ stem =
    ap (λ k. get_or c.args.starts.now k 0) c.clients.ensures.value ∙ c.requires.starts.each (length p.clients) (omega arith) in
    let row = c.in_ok-put_front.ensures.put ∙ ap (λ k. take k c.args.base.now) end in
    let begins : get_or c.args.starts.now c.from.result 0 ≡ named_before p 0 c.args.client =
    ap (λ k. get_or c.args.starts.now k 0) c.from.ensures ∙ c.requires.starts.each c.args.client (let l = c.requires.client in omega (arith, l)) in
    let many : c.len.result ≡ length (client_at p c.args.client).variables = c.len.ensures.value ∙ ap length c.variables.ensures.value in
    record { put = whole c.put_front.new.row.items c.put_numbers.new.row c.put_front.new.row.len (c.put_numbers.ensures.long ∙ c.as_mut_slice.ensures.len) ∙ c.put_numbers.ensures.put ∙ (λ i. overwritten ((c.as_mut_slice.ensures.value ∙ row) i) (begins i) (take (many i) c.args.values.now)) }
