use Rattle.std.proofs.Common.{◌&&◌, ap, sym, subst, ◌∙◌}
use Rattle.qs_core_laws.specs.audit.CoreSchedule.{is_finished}
use Rattle.qs_core.specs.shown.CoreShown.{HaveLanes, are_through, are_waiting, shown_by}
use Rattle.qs_core.specs.state.CoreState.{CoreState, core_of}
use Rattle.qs_core.proofs.shown.CoreReadings.{finished_is, lanes_in}
use Rattle.qs_core.proofs.optimised.Core.is_finished.Goals as goal

pub are_finished-requires : goal.are_finished-requires
are_finished-requires c =
    let s = c.self.inside.machine in
    record {
      lanes = subst (λ cs. HaveLanes cs c.handlers.result.now) (sym c.clients.ensures.value)
          (subst (λ hs. HaveLanes s.clients hs) (sym c.handlers.ensures.value) (lanes_in s c.keeps_machine.ensures.state));
    }

pub returns : goal.returns
unfolding shown_by
returns c =
    let s = c.self.inside.machine in
    record {
      value = c.are_finished.ensures.value
          ∙ (λ k. are_through (c.clients.ensures.value k) && are_waiting (c.clients.ensures.value k) (c.handlers.ensures.value k))
          ∙ sym (finished_is s c.keeps_machine.ensures.state)
          ∙ ap (λ (x : CoreState). is_finished x.program (core_of x)) c.self.view_is;
    }
