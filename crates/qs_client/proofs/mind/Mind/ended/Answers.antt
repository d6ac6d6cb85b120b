use Rattle.std.proofs.Common.{◌≡◌, false, sym, ap, ◌∙◌, arith}
use Rattle.qs_client.specs.audit.ClientModel.{is_between}
use Rattle.qs_client.specs.MindState.{MindState, mind_of}
use Rattle.qs_client.specs.contracts.mind.Mind.{the_view}
use Rattle.qs_client.proofs.MindRefinement.{begun_between}
use Rattle.qs_client.proofs.mind.Mind.ended.Goals as goal

pub overflow_sub-result : goal.overflow_sub-result
overflow_sub-result c =
    let m : MindState = the_view c.self.inside in
    let off : is_between (mind_of m).client.stage ≡ false =
    ap (λ (x : MindState). is_between (mind_of x).client.stage) c.self.view_is ∙ sym c.is_between.ensures.value ∙ c.if-is_between.false in
    omega (arith, begun_between m c.self.invariant.1 off, c.len-begun.ensures)
