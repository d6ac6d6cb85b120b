use Rattle.std.proofs.Common.{true, subst, arith}
use Rattle.qs_outcomes.proofs.Common.{drafted, IsInserted, length-map, rows_in, shape_of}
use Rattle.qs_outcomes.proofs.Steps.{key_new, limit_met}
use Rattle.qs_outcomes.proofs.depth.note.Goals as goal

pub returns-then-len-search-clause-full : goal.returns-then-len-search-clause-full
returns-then-len-search-clause-full c = λ _.
    let rows = rows_in c.args.seen.now.keys in
    let later = rows_in c.insert.new.seen.keys in
    let q = drafted c.write.new.scratch.base in
    let inserted : IsInserted rows q true later =
    subst (λ b. IsInserted rows q b later) c.if-new.true (subst (λ r. IsInserted rows r c.in_ok-new.new later) c.in_ok-row.ensures.same c.in_ok-new.ensures.inserted) in (
      limit_met rows later q c.args.search.now.limit inserted.0 c.requires.small
          (let e = c.len.ensures.len in let long = length-map c.insert.new.seen.keys shape_of in let past = c.if-len-search.true in omega (arith, e, long, past)),
      key_new c.in_ok-write.ensures.written.0 rows inserted.1,
    )
