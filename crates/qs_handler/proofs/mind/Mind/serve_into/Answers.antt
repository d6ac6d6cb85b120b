use Rattle.std.proofs.Common.{ap, ◌∙◌}
use Rattle.qs_chunk.specs.declared.parcel.Parcel.{Parcel}
use Rattle.qs_handler.specs.audit.Handler.{Handler, free, serves, accept_parcel}
use Rattle.qs_handler.specs.Stages.{at_home}
use Rattle.qs_handler.proofs.ServingStages.{serves_with}
use Rattle.qs_handler.proofs.mind.Mind.serve_into.Goals as goal

pub returns-in-End : goal.returns-in-End
returns-in-End c =
    let s = c.self-in-End.inside in
    let t = c.args.ticket in
    let x = c.requires.serves.0 in
    record {
      received = (
        free x,
        ap (λ (h : Handler). accept_parcel h c.args.parcel) c.requires.serves.1 ∙ ap (λ (p : Parcel). accept_parcel (serves t x) p) c.in-End.is,
        c.put.ensures.put,
        ap (λ held. at_home held free) (serves_with s.stage s.held s.spare t x (c.self-in-End.view_is ∙ c.requires.serves.1)),
      );
    }
