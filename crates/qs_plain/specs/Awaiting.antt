-- What a client waits for under the plain rules.
use Rattle.std.specs.Prelude.{ℕ, if◌then◌else◌, nat_lt}
use Rattle.qs_program.specs.audit.Program.{ProgramShape, blocks_of}
use Rattle.qs_plain_laws.specs.audit.Plain.{Client, Plain, StageOfClient, out, within, waiting, begun_blocks, client_at}
use Rattle.qs_plain.specs.declared.awaited.Awaited.{Awaited}
use Rattle.qs_plain.specs.declared.awaited.Awaited.TheVariants.{Nothing, Reply, Done}

-- between two blocks it is done where none is to come, and else it reserves the next one
abbrev pub awaited_by : ProgramShape → (c : ℕ) → Client → StageOfClient → Awaited
awaited_by p c it (out l) = if nat_lt (begun_blocks it) (blocks_of p c) then Nothing else Done
awaited_by p c it (within rest) = Nothing
awaited_by p c it (waiting next) = Reply

-- of a client by its number
abbrev pub awaited_at : ProgramShape → Plain → (c : ℕ) → Awaited
awaited_at p s c = awaited_by p c (client_at s c) (client_at s c).stage
