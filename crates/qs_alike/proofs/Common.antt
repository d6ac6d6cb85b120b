-- The words and lemmas of the crates below that the proofs here use.
pub use Rattle.qs_meaning.proofs.Orders.{complete_orders_leave_none, configuration-append, configurations_follow_orders, legal_on}
pub use Rattle.qs_meaning.specs.audit.Configurations.{Configuration, configuration_after, configuration_from, first_configuration, IsComplete, one_block_on}
pub use Rattle.qs_meaning.specs.audit.Serial.{IsLegal, LegalFrom, no_state, zeros}
pub use Rattle.qs_meaning.specs.audit.Solo.{put, solo}
pub use Rattle.qs_objects.specs.ByteSets.{in_byte}
pub use Rattle.qs_objects.specs.declared.held.Ticket.{Ticket}
pub use Rattle.qs_program.specs.audit.Program.{blocks_of, BlockShape, client_at, no_block, ProgramShape}
pub use Rattle.qs_standings.proofs.Stands.{has_place}
pub use Rattle.qs_standings.specs.Standings.{configuration_in, exchanged, flipped, IsReducedAfter, IsStanding, row_of, RowShape, StandingShape}
pub use Rattle.std.proofs.lemmas.Bool.{cases_eq, cases_lt}
pub use Rattle.std.proofs.lemmas.Bool.Decides.{nat_tests}
pub use Rattle.std.proofs.lemmas.List.{append_cancel_left, length-map}
pub use Rattle.std.specs.Cmp.Lexicographic.{slice_cmp}
pub use Rattle.std.specs.Ordering.{int_cmp, is_le, ordering_reverse}
