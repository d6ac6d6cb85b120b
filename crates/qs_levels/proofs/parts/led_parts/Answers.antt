use Rattle.qs_levels.proofs.Common.{sendable, crosses}
use Rattle.qs_levels.proofs.Crossing.{step_sync}
use Rattle.qs_levels.proofs.parts.led_parts.Goals as goal

pub side_by_side-requires-sync-F : goal.side_by_side-requires-sync-F
side_by_side-requires-sync-F g c = λ κs h. search (step_sync, crosses, sendable) depth 40
