use Rattle.qs_syncset.proofs.CoalescedWalks.{coalescing_is_unique}
use Rattle.qs_syncset.proofs.laws.coalescing_is_unique.Goals as goal

pub returns : goal.returns
returns c = record { unique = coalescing_is_unique }
