use Rattle.std.proofs.Common.{◌≤◌, length, ap, arith, sym, subst, ◌∙◌}
use Rattle.qs_program.specs.Sound.{IsSound}
use Rattle.qs_core_laws.specs.audit.Core.{core_step}
use Rattle.qs_core.specs.state.CoreState.{CoreKeeps, codes_of, core_of}
use Rattle.qs_core.proofs.state.CoreAbsent.{absent_client, absent_handler}
use Rattle.qs_core.proofs.state.CoreReaching.{core_keeps}
use Rattle.qs_core.proofs.optimised.Core.step.Goals.{in-Client+then-from-clients, in-Client+else-from-clients, in-Handler+then-from-handlers, in-Handler+else-from-handlers}
use Rattle.qs_core.proofs.optimised.Core.step.Goals as goal

pub returns-clause-none : goal.returns-clause-none
returns-clause-none c = λ none.
    let r = c.self.inside.machine in
    let s = c.args.self.now in
    let kept = c.keeps_machine.ensures.state in
    let keeps = subst CoreKeeps c.self.view_is (core_keeps r (subst IsSound c.program.ensures.value c.keeps_sound.ensures.sound) kept c.self.invariant.0) in
    elim c.match-actor.branch [
      | in-Client+then-from-clients w ↦ ap (core_step (codes_of s) s.size (core_of s)) w.in-Client.is ∙ w.step_client.ensures.none (sym w.stepped-is ∙ none)
      | in-Client+else-from-clients w ↦ (
          let out : length r.clients ≤ w.in-Client.client = grind (arith, w.if-from-clients.false, w.from.ensures, ap length w.clients.ensures.value) in
          absent_client r s c.self.view_is kept keeps c.args.actor w.in-Client.client w.in-Client.is out)
      | in-Handler+then-from-handlers w ↦ ap (core_step (codes_of s) s.size (core_of s)) w.in-Handler.is ∙ w.step_handler.ensures.none (sym w.stepped-is ∙ none)
      | in-Handler+else-from-handlers w ↦ (
          let out : length r.handlers ≤ w.in-Handler.handler = grind (arith, w.if-from-handlers.false, w.from-in-Handler.ensures, ap length w.handlers.ensures.value) in
          absent_handler r s c.self.view_is kept keeps c.args.actor w.in-Handler.handler w.in-Handler.is out)
    ]
