use Rattle.std.proofs.Common.{false, sym, subst, ◌∙◌}
use Rattle.qs_chunk.proofs.LaneFronts.{StandsFrom-last}
use Rattle.qs_chunk.specs.audit.Lanes.{is_asked}
use Rattle.qs_chunk.specs.Lanes.{IsLane, MayFollow}
use Rattle.qs_lane.specs.Views.{OutView}
use Rattle.qs_lane.proofs.Spared.{sent_or_back}
use Rattle.qs_lane.proofs.lane_ends.LaneOut.try_send.Goals as goal

pub try_send-requires : goal.try_send-requires
try_send-requires g c =
    let d = c.self.inside.down in
    let follows = subst (λ (v : OutView). MayFollow v.size (is_asked false v.sent) c.args.parcel) (sym c.self.view_is) c.requires.follows in
    record { good = StandsFrom-last d.key false d.sent c.args.parcel c.self.invariant.2 follows }

pub invariant_of-self : goal.invariant_of-self
invariant_of-self g c =
    let d = c.self.inside.down in
    let i = c.self.invariant in
    let follows = subst (λ (v : OutView). MayFollow v.size (is_asked false v.sent) c.args.parcel) (sym c.self.view_is) c.requires.follows in
    let e = c.try_send.ensures in
    let s = sent_or_back IsLane c.try_send.result c.args.parcel d c.try_send.new.self i.2 (StandsFrom-last d.key false d.sent c.args.parcel i.2 follows) e.ok e.back in
    (s.0 ∙ i.0, i.1 ∙ sym s.1, s.2)
