-- The words and lemmas of the crates below that the proofs here use.
pub use Rattle.qs_meaning.proofs.Each.{each_back, each_both, each_front, each_join, each_map}
pub use Rattle.qs_meaning.proofs.Orders.{configuration-append, legal-rest, legal_on}
pub use Rattle.qs_meaning.specs.Reduced.{block_reserves, Clients, comes_in, goes_on, group_of, IsReducedFrom, many_below, size_of_set, smaller, some_below, still_reserves, widened, wider}
pub use Rattle.qs_meaning.specs.audit.Configurations.{Configuration, configuration_after, configuration_from, first_configuration, one_block_on}
pub use Rattle.qs_meaning.specs.audit.Serial.{declared_states, IsLegal, LegalFrom, no_state, state_or_none, zeros}
pub use Rattle.qs_meaning.specs.audit.Solo.{BlockResult, put, solo, States}
pub use Rattle.qs_objects.proofs.Choices.{eqb_apart, eqb_self, eqb_true}
pub use Rattle.qs_objects.proofs.Elements.{AllByRecursion-get_or}
pub use Rattle.qs_objects.specs.audit.Act.{account, buffer, Content, grid, State}
pub use Rattle.qs_objects.specs.audit.Objects.{starts, values_of}
pub use Rattle.qs_objects.specs.declared.held.Ticket.{Ticket}
pub use Rattle.qs_program.specs.Sound.{IsSound, IsSoundBlock, IsSoundBody, IsSoundCall, IsSoundClient}
pub use Rattle.qs_program.specs.audit.Limits.{most_clients, most_objects, most_variables}
pub use Rattle.qs_program.specs.audit.Program.{block_at, blocks_of, BlockShape, client_at, no_block, no_client, no_object, ProgramShape}
pub use Rattle.qs_program.specs.audit.Sound.{is_in}
pub use Rattle.qs_program.specs.audit.Values.{Locals}
pub use Rattle.qs_serial.specs.Alone.{AreCallsWithin, IsCallWithin, states_in}
pub use Rattle.qs_serial.specs.audit.NamedOrders.{order_from, order_of}
pub use Rattle.std.proofs.lemmas.Bool.{and_parts, cases_Bool, cases_eq, cases_lt}
pub use Rattle.std.proofs.lemmas.Bool.Decides.{Decides-int_eq, nat_tests}
pub use Rattle.std.proofs.lemmas.Int.{to_z-of_z}
pub use Rattle.std.proofs.lemmas.List.{drop-append-le, drop-drop, drop-replicate, drop_all, drop_at, ext_get_or, get_or-map, get_or_default, get_or_past, length-drop, length-map, length-replicate, length-set, length-take, map-append, nil_from_length, replicate-append-replicate, set-append_left, take-append-drop, take-append-le, take_all, take_at, take_more}
pub use Rattle.std.specs.List.{AllByRecursion, list_any}
pub use Rattle.std.specs.Prelude.{slice_get, Some}
