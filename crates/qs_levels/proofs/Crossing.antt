-- What threads share: a step of a search holds nothing that a thread must not see while another one does.
use Rattle.qs_levels.proofs.Common.{IsSync, sendable, crosses}
use denote.Ref.{NamedLft}
use Rattle.std.proofs.MapsCrossing as maps
use Rattle.qs_program.proofs.code.Body.TheLaws.TheKnot as bodies

atoms_sync : IsSync Rattle.qs_program.specs.contracts.code.Atoms.the_row
atoms_sync = search (crosses, sendable) depth 40

call_sync : IsSync Rattle.qs_program.specs.contracts.code.Call.the_row
call_sync = search (atoms_sync, crosses, sendable) depth 40

body_sync : IsSync Rattle.qs_program.specs.contracts.code.Body.the_row
body_sync = search (bodies.crosses, call_sync, crosses, sendable) depth 40

names_sync : IsSync Rattle.qs_program.specs.contracts.names.Names.the_row
names_sync = search (crosses, maps.crosses, sendable) depth 40

declared_sync : IsSync Rattle.qs_program.specs.contracts.program.Declared.the_row
declared_sync = search (crosses, sendable) depth 40

block_sync : IsSync Rattle.qs_program.specs.contracts.program.Block.the_row
block_sync = search (body_sync, crosses, sendable) depth 40

start_sync : IsSync Rattle.qs_program.specs.contracts.program.Start.the_row
start_sync = search (block_sync, declared_sync, crosses, sendable) depth 40

client_sync : IsSync Rattle.qs_program.specs.contracts.program.Client.the_row
client_sync = search (block_sync, start_sync, names_sync, crosses, sendable) depth 40

pub program_sync : IsSync Rattle.qs_program.specs.contracts.program.Program.the_row
program_sync = search (client_sync, declared_sync, crosses, sendable) depth 40

packed_sync : IsSync Rattle.qs_standings.specs.contracts.packed.Packed.the_row
packed_sync = search (crosses, sendable) depth 40

part_sync : IsSync Rattle.qs_levels.specs.contracts.part.LevelPart.the_row
part_sync = search (packed_sync, crosses, sendable) depth 40

level_sync : IsSync Rattle.qs_levels.specs.contracts.level.Level.the_row
level_sync = search (part_sync, crosses, sendable) depth 40

search_sync : (a : NamedLft) → IsSync (Rattle.qs_levels.specs.contracts.step.Search.the_field a).row
search_sync a = search (program_sync, crosses, sendable) depth 40

pub step_sync : (a : NamedLft) → IsSync (Rattle.qs_levels.specs.contracts.step.Step.the_row a)
step_sync a = search (search_sync, level_sync, crosses, sendable) depth 40
