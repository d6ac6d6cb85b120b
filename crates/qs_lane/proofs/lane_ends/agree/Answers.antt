use Rattle.std.proofs.Common.{rules, ◌≡◌, ◌≤◌, List, ◌++◌, length}
use Rattle.qs_chunk.specs.audit.LaneRun.{syncs}
use Rattle.qs_chunk.specs.Lanes.{IsLane}
use Rattle.qs_chunk.proofs.LaneRuns.{run_of}
use Rattle.qs_chunk.specs.declared.parcel.Parcel.{Parcel}
use Rattle.qs_objects.specs.audit.Journals.{HeldState}
use Rattle.qs_lane.proofs.lane_ends.agree.Goals as goal

pub returns-clause-run : goal.returns-clause-run
returns-clause-run c =
    let o = c.args.out in
    let i = c.args.inside in
    let parcels : (rest : List Parcel) × (o.sent ≡ i.received ++ rest) = search rules in
    let form : IsLane o.size o.sent = search rules in
    let objects : (rest : List HeldState) × (i.given ≡ o.got ++ rest) = search rules in
    let served : length i.given ≤ syncs i.received = search rules in
    run_of o.size o.sent i.received i.given o.got (record { parcels = parcels; form = form; objects = objects; served = served })

pub returns-clause-served : goal.returns-clause-served
returns-clause-served c = (returns-clause-run c).served
