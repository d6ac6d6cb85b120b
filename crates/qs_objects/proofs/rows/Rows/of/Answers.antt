use Rattle.std.proofs.Common.{◌<◌, [], length, get_or, take, drop, sym, ap, ◌∙◌, subst, arith}
use Rattle.std.proofs.lemmas.List.{get_or_default}
use Rattle.qs_objects.specs.Rows.{RowsState}
use Rattle.qs_objects.proofs.Cuts.{row_inside, row_is, row_within, start_inside}
use Rattle.qs_objects.proofs.rows.Rows.of.Goals as goal

pub index-requires : goal.index-requires
index-requires g c =
    let own = start_inside _ _ _ _ _ c.self.invariant c.args.row (subst (λ (s : RowsState g.row.T.Denot). c.args.row < length s.rows) (sym c.self.view_is) c.requires.row) in
    omega (arith, own, c.self.inside.starts.ok.0)

pub index-requires-2 : goal.index-requires-2
index-requires-2 g c =
    let own = row_inside _ _ _ _ _ c.self.invariant c.args.row (subst (λ (s : RowsState g.row.T.Denot). c.args.row < length s.rows) (sym c.self.view_is) c.requires.row) in
    omega (arith, own, c.self.inside.lengths.ok.0)

pub row_slice-requires : goal.row_slice-requires
row_slice-requires g c =
    let row = subst (λ (s : RowsState g.row.T.Denot). c.args.row < length s.rows) (sym c.self.view_is) c.requires.row in
    let start = c.index.ensures ∙ get_or_default _ c.args.row _ 0 (start_inside _ _ _ _ _ c.self.invariant c.args.row row) in
    let count = c.index-2.ensures ∙ get_or_default _ c.args.row _ 0 (row_inside _ _ _ _ _ c.self.invariant c.args.row row) in
    let within = row_within _ _ _ _ _ c.self.invariant c.args.row _ _ row start count in
    record { within = omega (arith, within, ap length c.deref.ensures.value) }

pub returns : goal.returns
returns g c =
    let row = subst (λ (s : RowsState g.row.T.Denot). c.args.row < length s.rows) (sym c.self.view_is) c.requires.row in
    let start = c.index.ensures ∙ get_or_default _ c.args.row _ 0 (start_inside _ _ _ _ _ c.self.invariant c.args.row row) in
    let count = c.index-2.ensures ∙ get_or_default _ c.args.row _ 0 (row_inside _ _ _ _ _ c.self.invariant c.args.row row) in
    record {
      value = c.row_slice.ensures.value ∙ ap (λ xs. take c.index-2.result.now (drop c.index.result.now xs)) c.deref.ensures.value
          ∙ row_is _ _ _ _ _ c.self.invariant c.args.row _ _ row start count
          ∙ ap (λ (s : RowsState g.row.T.Denot). get_or s.rows c.args.row []) c.self.view_is;
    }
