use Rattle.qs_core.proofs.parts.ClientModels.{lanes_aside}
use Rattle.qs_core.proofs.parts.core_client.CoreClient.serve_lane.Goals as goal

pub invariant_of-self : goal.invariant_of-self
invariant_of-self c = lanes_aside _ c.self.invariant _
