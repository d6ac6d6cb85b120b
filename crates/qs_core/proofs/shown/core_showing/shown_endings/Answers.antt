use Rattle.std.proofs.Common.{◌&&◌, ap, sym, subst, ◌∙◌}
use Rattle.qs_core.specs.shown.CoreShown.{HaveLanes, are_through, are_waiting, endings_by}
use Rattle.qs_core.proofs.shown.core_showing.shown_endings.Goals as goal

pub are_finished-finished-requires : goal.are_finished-finished-requires
are_finished-finished-requires c = record { lanes = subst (HaveLanes c.args.clients.now) (sym c.deref.ensures.value) c.requires.showable.lanes }

pub returns : goal.returns
unfolding endings_by
returns c = record {
  shown = λ k. record {
    ended = c.in_ok-ended.ensures.value k;
    journals = c.in_ok-journals.ensures.journals k;
    states = c.in_ok-journals.ensures.states k;
    syncs = c.syncs-syncs.ensures.value k;
    finished = (c.are_finished-finished.ensures.value ∙ ap (λ hs. are_through c.args.clients.now && are_waiting c.args.clients.now hs) c.deref.ensures.value) k;
  };
}
