use Rattle.std.proofs.Common.{sym, ◌∙◌}
use Rattle.std.specs.Cmp.Rules.{signed_items}
use Rattle.qs_outcomes.proofs.alike.counts.have_same.Goals as goal

pub returns : goal.returns
returns c =
    let one = c.locals.ensures.locals in
    let other = c.locals-2.ensures.locals in
    let d = signed_items c.locals.result c.locals-2.result in
    record {
      same = (
        λ t. sym one ∙ (d.0 (sym c.eq.ensures ∙ t) ∙ other),
        λ e. c.eq.ensures ∙ d.1 (one ∙ (e ∙ sym other)),
      );
    }
