use Rattle.std.proofs.Common.{subst, sym, true≢false, ◌∙◌}
use Rattle.qs_outcomes.proofs.Common.{classes_in, IsKey, key_alone}
use Rattle.qs_outcomes.proofs.search.Search.write.Goals as goal

pub returns-then-self : goal.returns-then-self
returns-then-self c =
    let p = c.args.self.now.program.now in
    let k = classes_in c.args.self.now.classes.now in
    let row = c.in_ok-write_row.ensures.row in
    record {
      written = (
        subst (IsKey p k c.args.standing.now) (sym row) (key_alone p k (c.requires.prepared.none c.if-self.true) c.args.standing.now c.requires.standing),
        λ _. row,
        λ not. absurd (true≢false (sym c.if-self.true ∙ not)),
      );
    }
