-- The requests of the chunk that is sent or taken next.
use Rattle.std.specs.Prelude.{List, [], ◌∷◌}
use Rattle.qs_objects.specs.declared.Request.{Request}
use Rattle.qs_chunk.specs.declared.parcel.Parcel.{Parcel}
use Rattle.qs_chunk.specs.declared.parcel.Parcel.TheVariants.{Work, Sync, Home, End}
use Rattle.qs_client.specs.declared.rules.act.Act.{Act}
use Rattle.qs_client.specs.declared.rules.act.Act.TheVariants as acts

-- those of a parcel
abbrev pub requests_in : Parcel → List Request
requests_in (Work chunk) = chunk.items
requests_in Sync = []
requests_in (Home x) = []
requests_in End = []

-- of the parcel that comes first
abbrev pub first_requests : List Parcel → List Request
first_requests [] = []
first_requests (p ∷ ps) = requests_in p

-- of what a client sends
abbrev pub sent_requests : Act → List Request
sent_requests acts.Reserve = []
sent_requests (acts.Send h parcel) = requests_in parcel
sent_requests (acts.Await h) = []
sent_requests (acts.NeedChunk h) = []
sent_requests acts.Finished = []
