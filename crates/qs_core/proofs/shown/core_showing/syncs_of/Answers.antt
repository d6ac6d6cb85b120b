use Rattle.std.proofs.Common.{◌≤◌, sym, subst}
use Rattle.qs_core.specs.shown.CoreShown.{most_syncs}
use Rattle.qs_core.proofs.shown.CoreShowing.{few_syncs}
use Rattle.qs_core.proofs.shown.core_showing.syncs_of.Goals as goal

pub returns-clause-few : goal.returns-clause-few
returns-clause-few c = subst (λ n. n ≤ most_syncs) (sym c.syncs.ensures.value) (few_syncs c.args.client.now c.has_next_act.ensures.formed c.has_next_act.ensures.mind)
