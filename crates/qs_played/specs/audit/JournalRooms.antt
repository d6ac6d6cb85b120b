-- The room of each object's journal, and an object before the first step.
use Rattle.std.specs.Prelude.{[], ℕ, length, sum_by}
use Rattle.std.specs.List.{range_with_len}
use Rattle.qs_objects.specs.audit.Journals.{HeldState}
use Rattle.qs_meaning.specs.audit.Serial.{declared_states}
use Rattle.qs_program.specs.audit.Loads.{load_of}
use Rattle.qs_program.specs.audit.Program.{ProgramShape, block_at, blocks_of}

-- the room of an object's journal: the sum of the loads on it over all blocks
abbrev pub room_in : ProgramShape → ℕ → ℕ → ℕ
room_in p c h = sum_by (λ k. load_of (block_at p c k).body h) (range_with_len 0 (blocks_of p c))

abbrev pub room_of : ProgramShape → ℕ → ℕ
room_of p h = sum_by (λ c. room_in p c h) (range_with_len 0 (length p.clients))

-- an object as declared, with an empty journal
abbrev pub fresh_held : ProgramShape → ℕ → HeldState
fresh_held p h = record { object = declared_states p h; journal = []; room = room_of p h }
