-- The limits of chunks and lanes.
use Rattle.std.specs.Prelude.{ℕ}

-- parcels that a lane takes
abbrev pub lane_room : ℕ
lane_room = 16

-- a lane's empty chunks
abbrev pub spare_room : ℕ
spare_room = 4
