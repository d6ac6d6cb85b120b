use Rattle.std.proofs.Common.{false, sym, subst, ap, ◌∙◌, ℕ}
use Rattle.qs_chunk.proofs.LaneFronts.{StandsFrom-last}
use Rattle.qs_chunk.specs.audit.Lanes.{is_asked}
use Rattle.qs_chunk.specs.Lanes.{IsLane, MayFollow}
use Rattle.qs_chunk.specs.declared.parcel.Parcel.{Parcel}
use Rattle.qs_queue.specs.Views.{SenderView}
use Rattle.qs_lane.specs.Views.{OutView}
use Rattle.qs_lane.proofs.lane_ends.LaneOut.send.Goals as goal

pub send-requires : goal.send-requires
send-requires g c =
    let d = c.self.inside.down in
    let follows = subst (λ (v : OutView). MayFollow v.size (is_asked false v.sent) c.args.parcel) (sym c.self.view_is) c.requires.follows in
    record { good = StandsFrom-last d.key false d.sent c.args.parcel c.self.invariant.2 follows }

pub invariant_of-self : goal.invariant_of-self
invariant_of-self g c =
    let d = c.self.inside.down in
    let i = c.self.invariant in
    let follows = subst (λ (v : OutView). MayFollow v.size (is_asked false v.sent) c.args.parcel) (sym c.self.view_is) c.requires.follows in
    let sent = c.send.ensures.sent in (
      ap (λ (s : SenderView Parcel ℕ). s.room) sent ∙ i.0,
      i.1 ∙ sym (ap (λ (s : SenderView Parcel ℕ). s.key) sent),
      subst (λ (s : SenderView Parcel ℕ). IsLane s.key s.sent) (sym sent) (StandsFrom-last d.key false d.sent c.args.parcel i.2 follows),
    )
