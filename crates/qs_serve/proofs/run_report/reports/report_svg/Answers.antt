use Rattle.std.proofs.Common.{◌≡◌, ◌∙◌, Bor, IfOk, Option, Some, None, ap, option_map, refl, subst}
use Rattle.std.specs.Option.{option_copied}
use Rattle.qs_standings.specs.Standings.{StandingShape, configuration_in}
use Rattle.qs_svg.specs.audit.RunSvg.{run_svg as svg_of_run}
use Rattle.qs_serve.proofs.run_report.reports.report_svg.Goals as goal

-- the variables of what is borrowed are those of what it was borrowed from
borrowed : (o : Option (Bor StandingShape)) → option_map (λ (s : Bor StandingShape). (configuration_in s.now).locals) o
    ≡ option_map (λ (s : StandingShape). (configuration_in s).locals) (option_copied o)
borrowed None = refl
borrowed (Some s) = refl

pub returns : goal.returns
returns c = record {
  picture = subst (λ locals. IfOk c.run_svg.result (λ picture. picture.items ≡ svg_of_run c.args.program.now c.args.played.now locals))
      (borrowed c.as_ref.result ∙ ap (option_map (λ (s : StandingShape). (configuration_in s).locals)) c.as_ref.ensures.value ∙ c.in_ok-end.ensures.locals)
      c.run_svg.ensures.picture;
}
