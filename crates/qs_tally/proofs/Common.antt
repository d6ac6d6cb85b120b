-- The words and lemmas of the crates below that the proofs here use.
pub use Rattle.qs_meaning.proofs.Each.{each_map, each_snoc}
pub use Rattle.qs_meaning.specs.Configurations.{OrderOutcome, outcome_in, outcome_of}
pub use Rattle.qs_meaning.specs.audit.Configurations.{Configuration, IsComplete}
pub use Rattle.qs_objects.proofs.Choices.{apart_eqb, eqb_apart, eqb_self, num_cases}
pub use Rattle.qs_objects.specs.declared.held.Ticket.{Ticket}
pub use Rattle.qs_outcomes.specs.Outcomes.{AreApart, AreOutcomes, HasMoreThan, IsLeastAfter, IsListed, IsListedAfter, outcome_at, OutcomesShape}
pub use Rattle.qs_program.specs.audit.Program.{blocks_of, ProgramShape}
pub use Rattle.qs_standings.proofs.Lists.{has_some, same_list, two_snoc}
pub use Rattle.qs_standings.specs.Rows.{equal, IsInserted, rows_in, shape_of}
pub use Rattle.qs_standings.specs.Standings.{IsFirst, IsReducedAfter, IsStanding, row_of, RowShape, StandingShape}
pub use Rattle.std.proofs.lemmas.List.{map-append}
pub use Rattle.std.proofs.lemmas.Option.{slice_get-map, slice_get_read, slice_get_within}
pub use Rattle.std.proofs.lemmas.Slice.Zip.{all_zipped_more, AllZip-long}
pub use Rattle.std.specs.List.{AllByRecursion, AllZip}
