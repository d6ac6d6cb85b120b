use Rattle.std.proofs.Common.{subst}
use Rattle.qs_client.specs.MindState.{IsMind, MindState, mind_of}
use Rattle.qs_client.proofs.MindRefinement.{sound_mind}
use Rattle.qs_client.proofs.mind.Mind.keeps_mind.Goals as goal

pub returns : goal.returns
returns c = record { mind = subst (λ (m : MindState). IsMind (mind_of m)) c.self.view_is (sound_mind _ c.self.invariant.1) }
