use Rattle.std.proofs.Common.{◌≡◌, ap, sym, subst, ◌∙◌}
use Rattle.qs_played.specs.Played.{HaveRows, shown_with}
use Rattle.qs_played.specs.declared.shown.played.Endings.{Endings}
use Rattle.qs_core.specs.shown.CoreShown.{endings_by}
use Rattle.qs_core.proofs.shown.CoreRows.{have_rows, shown_are}
use Rattle.qs_core.proofs.shown.core_showing.shown.Goals as goal

pub new-requires : goal.new-requires
new-requires c =
    let tickets : c.from_vec.result ≡ c.args.order.items = c.from_vec.ensures.value in
    record {
      rows = subst (HaveRows c.in_ok-rows.rows.items) (sym tickets)
          (have_rows c.args.order.items c.args.clients.items c.in_ok-rows.rows.items c.in_ok-rows.ensures.rows c.in_ok-rows.ensures.minds c.requires.showable.begun);
    }

pub returns : goal.returns
returns c =
    let tickets : c.from_vec.result ≡ c.args.order.items = c.from_vec.ensures.value in
    let e : Endings = c.in_ok-endings.endings in
    let is = c.in_ok-endings.ensures.shown ∙ ((λ k. endings_by (c.deref.ensures.value k) (c.deref-2.ensures.value k) c.args.handlers.items)) in
    record {
      shown = c.new.ensures.value
          ∙ (ap (λ ts. shown_with ts e.ended c.in_ok-rows.rows.items e.journals e.states e.syncs e.finished) tickets
          ∙ shown_are c.args.order.items c.args.clients.items c.args.handlers.items c.in_ok-rows.rows.items e c.in_ok-rows.ensures.rows is);
    }
