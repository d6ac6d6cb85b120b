-- When a parcel other than a Sync is sent to a lane, the last parcel there is no Sync, whether this one went or came
-- back. The test that sends the end of a block, `send_end`, promises this. It goes by cases on the result of sending.
use Rattle.std.proofs.Common.{◌≡◌, false, [], ◌∷◌, ◌++◌, Ok, Err, ap, ◌∙◌}
use Rattle.std.specs.Prelude.{Result, IfOk, IfErr}
use Rattle.qs_chunk.specs.audit.Lanes.{is_asked, is_sync}
use Rattle.qs_chunk.proofs.LaneFronts.{asked_last}
use Rattle.qs_chunk.specs.declared.parcel.Parcel.{Parcel}
use Rattle.qs_lane.specs.Views.{OutView}

-- no Sync was sent last, whether this parcel went or came back
pub still_quiet : (r : Result (Unit {0}) Parcel) (p : Parcel) (old new : OutView) → is_sync p ≡ false → is_asked false old.sent ≡ false
    → IfOk r (λ _. new ≡ record old { sent = old.sent ++ p ∷ [] }) → IfErr r (λ y. (y ≡ p) × (new ≡ old)) → is_asked false new.sent ≡ false
still_quiet (Ok u) p old new quiet is ok back = ap (λ (v : OutView). is_asked false v.sent) ok ∙ asked_last false old.sent p ∙ quiet
still_quiet (Err y) p old new quiet is ok back = ap (λ (v : OutView). is_asked false v.sent) back.1 ∙ is
