use Rattle.std.proofs.Common.{◌≡◌, List, [], ◌∷◌, ◌++◌, Some, None, Option, ℕ, ap, subst, ◌∙◌}
use Rattle.std.specs.Prelude.{IfSome}
use Rattle.qs_objects.specs.declared.Request.{Request}
use Rattle.qs_chunk.specs.audit.Batch.{Batch, batch}
use Rattle.qs_lane.specs.Spares.{AllEmpty}
use Rattle.qs_lane.specs.Views.{OutView}
use Rattle.qs_lane.proofs.Spared.{empty_last}
use Rattle.qs_lane.proofs.lane_ends.LaneOut.try_empty.Goals as goal

empty : (r : Option (Batch Request)) (size : ℕ) (taken : List (Batch Request)) → IfSome r (λ c. AllEmpty size (taken ++ c ∷ [])) → IfSome r (λ c. c ≡ batch [] size)
empty None size taken all = tt
empty (Some c) size taken all = empty_last size taken c all

pub returns-clause-empty : goal.returns-clause-empty
returns-clause-empty g c =
    let q = c.self.inside.spare in
    subst (λ (size : ℕ). IfSome c.try_take.result (λ chunk. chunk ≡ batch [] size)) (c.self.invariant.1 ∙ ap (λ (v : OutView). v.size) c.self.view_is)
    (empty c.try_take.result q.key q.received c.try_take.ensures.good)
