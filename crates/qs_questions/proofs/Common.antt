-- The words and lemmas of the crates below that the proofs here use.
pub use Rattle.qs_conditions.specs.Claims.{seeks}
pub use Rattle.qs_conditions.specs.Conditions.{both, compare, either, holds, negation, steps_of, sum_of, Tree}
pub use Rattle.qs_conditions.specs.declared.condition.Step.{Step}
pub use Rattle.qs_conditions.specs.declared.condition.Summand.{Summand}
pub use Rattle.qs_conditions.specs.declared.condition.Value.{Value}
pub use Rattle.qs_meaning.specs.Configurations.{OrderOutcome, outcome_in}
pub use Rattle.qs_objects.specs.ByteSets.{in_byte}
pub use Rattle.qs_objects.specs.audit.Operations.{all_operations, arity, is_of_account, is_of_buffer, is_of_grid, is_query, operations_of, word}
pub use Rattle.qs_program.specs.audit.Numbering.{found_at, is_among, Name, same_name}
pub use Rattle.qs_program.specs.audit.Program.{client_at, ClientShape, no_client, no_object, object_at, ProgramShape}
pub use Rattle.qs_script.specs.declared.tree.tree.Relation.{Relation}
pub use Rattle.qs_standings.proofs.going.GoingSets.{in_or}
pub use Rattle.qs_standings.specs.Standings.{configuration_in}
pub use Rattle.std.proofs.Math.Seq.{drop-cons}
pub use Rattle.std.proofs.lemmas.Bool.Decides.{nat_tests}
pub use Rattle.std.proofs.lemmas.Int.{ints, to_z-of_z}
pub use Rattle.std.proofs.lemmas.List.{drop_all}
pub use Rattle.std.specs.List.{AllByRecursion, filter, find, position, position_or_len}
pub use Rattle.std.specs.Option.{is_some, option_or}
