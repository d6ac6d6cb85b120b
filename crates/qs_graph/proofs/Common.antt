-- The words and lemmas of the crates below that the proofs here use.
pub use Rattle.qs_objects.proofs.Elements.{AllByRecursion-get_or}
pub use Rattle.qs_program.specs.Sound.{IsSound, IsSoundBlock, IsSoundBody, IsSoundCall, IsSoundClient, IsStartSound}
pub use Rattle.qs_program.specs.Views.{single, statements_of}
pub use Rattle.qs_program.specs.audit.Binding.{bound_block, bound_call, bound_statements}
pub use Rattle.qs_program.specs.audit.Limits.{most_handlers, most_objects, most_steps}
pub use Rattle.qs_program.specs.audit.Loads.{weight_of}
pub use Rattle.qs_program.specs.audit.Program.{binding_in, binding_of, block_at, BlockShape, client_at, ClientShape, declarations_in, declarations_of, no_block, no_client, own_block, own_in, ProgramShape, StartShape, whole_weight}
pub use Rattle.qs_program.specs.audit.Statements.{again, assign, choose, command, end, leave, query, Statements}
pub use Rattle.qs_program.specs.audit.Values.{expr_value, Locals, request_of, test_value}
pub use Rattle.qs_program.specs.declared.program.Declared.{Declared}
pub use Rattle.std.proofs.Math.Path.{fun_ext}
pub use Rattle.std.proofs.lemmas.List.{append-nil, drop_all, ext_get_or, length-map, map-append, take_at}
pub use Rattle.std.specs.List.{AllByRecursion}
