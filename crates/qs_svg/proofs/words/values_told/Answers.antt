use Rattle.qs_svg.proofs.Common.{rules, ◌-◌, to_z-of_z}
use Rattle.std.proofs.lemmas.Option.{unwrap_or-slice_get}
use Rattle.qs_svg.proofs.ToldValues.{one_more_told, stops_here}
use Rattle.qs_svg.proofs.words.values_told.Goals as goal

pub returns-then-room-size-clause-told : goal.returns-then-room-size-clause-told
returns-then-room-size-clause-told c = search (rules, to_z-of_z, unwrap_or-slice_get, stops_here)

pub loop-place-preserved : goal.loop-place-preserved
loop-place-preserved c = search (rules, to_z-of_z, unwrap_or-slice_get, one_more_told)
