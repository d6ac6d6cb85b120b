use Rattle.std.proofs.Common.{ap, ◌∙◌}
use Rattle.qs_objects.specs.audit.Journals.{HeldState}
use Rattle.qs_objects.specs.declared.Request.{Request}
use Rattle.qs_chunk.specs.audit.Batch.{Batch}
use Rattle.qs_chunk.specs.audit.Runs.{ran_all}
use Rattle.qs_chunk.specs.declared.parcel.Parcel.TheVariants.{Work}
use Rattle.qs_handler.specs.audit.Handler.{Handler, serves, spares, accept_parcel}
use Rattle.qs_handler.specs.declared.mind.Act.TheVariants as acts
use Rattle.qs_handler.proofs.ServingStages.{one_object, serves_with}
use Rattle.qs_handler.proofs.mind.Mind.run_into.Goals as goal

pub returns : goal.returns
returns c =
    let s = c.self.inside in
    let t = c.args.ticket in
    let x = c.requires.serves.0 in
    let items = c.args.chunk.items in
    let same = one_object s.held c.in-Some.object x c.in-Some.is (serves_with s.stage s.held s.spare t x (c.self.view_is ∙ c.requires.serves.1)) in
    record {
      received = (
        spares t (ran_all x t items) c.args.chunk.capacity,
        ap (λ (h : Handler). accept_parcel h (Work c.args.chunk)) c.requires.serves.1,
        c.put.ensures.put ∙ ap (λ (b : Batch Request). acts.Spare t.client b) c.run_all.ensures.chunk,
        ap (serves t) (c.run_all.ensures.held ∙ ap (λ (y : HeldState). ran_all y t items) same),
      );
    }
