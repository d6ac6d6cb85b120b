-- Whatever a handler does, it goes on standing to each client's lane as it should: it asks only for parcels that may
-- follow there, and gives its object only for a Sync that is not served yet. The proofs on a handler's whole run and on
-- its thread stand on these laws. Each goes by cases on the handler's state and on the parcel.
use Rattle.std.proofs.Common.{◌≡◌, ◌+◌, if◌then◌else◌, false, List, [], ◌∷◌, ◌++◌, length, refl, arith, length-append, rules}
use Rattle.std.proofs.lemmas.List.Sums.{sum_by-append}
use Rattle.qs_objects.specs.audit.Journals.{HeldState}
use Rattle.qs_chunk.specs.audit.Lanes.{is_sync}
use Rattle.qs_chunk.specs.audit.LaneRun.{syncs}
use Rattle.qs_chunk.proofs.LaneFronts.{asked_last}
use Rattle.qs_chunk.specs.declared.parcel.Parcel.{Parcel}
use Rattle.qs_handler.specs.HandlerLanes.{OwesNothing, HandlerLaneLaws}

syncs_with : (ps : List Parcel) (p : Parcel) → syncs (ps ++ p ∷ []) ≡ syncs ps + (if is_sync p then 1 else 0)
syncs_with ps p = let parted = sum_by-append (λ q. if is_sync q then 1 else 0) ps (p ∷ []) in omega arith

quiet_on : (ps : List Parcel) (p : Parcel) (given : List HeldState) → is_sync p ≡ false → length given ≡ syncs ps → OwesNothing (ps ++ p ∷ []) given
quiet_on ps p given none served = search (rules, asked_last, syncs_with)

pub handler_lane_laws : HandlerLaneLaws
handler_lane_laws = record {
  begins = λ size client x. record { last = refl; served = refl };
  tickets = λ size client h new next ps given is stands. search rules;
  asks = λ size client h ps given asked stands. search rules;
  parcels = λ size client h new p ps given asked is sized stands. search (rules, quiet_on, asked_last, syncs_with);
  parcels_elsewhere = λ size client other h new p ps given asked is apart stands. search rules;
  gives = λ size client h x ps given asked stands. search (rules, length-append);
  gives_elsewhere = λ size client other h x ps given asked apart stands. search rules;
  spares = λ size client h chunk ps given asked stands. search rules;
  spares_on = λ size client other h chunk ps given asked stands. search rules;
  ends = λ size client h ps given asked stands. search rules;
}
