use Rattle.std.proofs.Common.{refl}
use Rattle.qs_chunk.specs.declared.parcel.Parcel.TheVariants.{End}
use Rattle.qs_lane.proofs.Ended.{still_quiet}
use Rattle.qs_lane.proofs.tests.send_end.Goals as goal

pub returns-clause-quiet : goal.returns-clause-quiet
returns-clause-quiet g c = still_quiet c.try_send-sent.result End c.args.out.now c.try_send-sent.new.self refl c.requires c.try_send-sent.ensures.ok c.try_send-sent.ensures.back
