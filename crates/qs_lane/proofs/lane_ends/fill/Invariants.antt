use Rattle.std.proofs.Common.{◌≡◌, [], replicate}
use Rattle.qs_chunk.specs.audit.Batch.{batch}
use Rattle.qs_lane.proofs.lane_ends.fill.Given as goal

abbrev pub invariant-loop-chunk : goal.invariant-loop-chunk
invariant-loop-chunk g l = l.spare ≡ record l.initial.spare { sent = replicate l._chunk (batch [] l.size) }
