use Rattle.std.proofs.Common.{sym, subst}
use Rattle.std.specs.Prelude.{IfSome}
use Rattle.qs_meaning.specs.audit.Serial.{IsLegal}
use Rattle.qs_played.specs.Isolation.{IsFitting}
use Rattle.test_pairs.proofs.Fitting.{shown_fits, shown_is_legal}
use Rattle.test_pairs.proofs.played.Goals as goal

pub returns-clause-fits : goal.returns-clause-fits
returns-clause-fits c =
    subst (λ played. IfSome played (IsFitting c.args.program.now)) (sym c.ok.ensures.value)
    (shown_fits c.args.program.now c.args.mode c.in_ok-size.size c.args.picks.now c.args.rounds c.play.result c.play.ensures.isolated)

pub returns-clause-legal : goal.returns-clause-legal
returns-clause-legal c =
    subst (λ shown. IfSome shown (λ played. IsLegal c.args.program.now played.order)) (sym c.ok.ensures.value)
    (shown_is_legal c.args.program.now c.args.mode c.in_ok-size.size c.args.picks.now c.args.rounds c.play.result c.play.ensures.isolated)
