-- The words and lemmas of the crates below that the proofs here use.
pub use Rattle.qs_objects.proofs.Choices.{and_cases, apart_eqb, eqb_apart, eqb_self, eqb_true, not_same, num_cases, same_self}
pub use Rattle.qs_objects.proofs.ObjectLaws.{begins_in_range, never_answers, same_shape, stays_in_range}
pub use Rattle.qs_objects.specs.Parts.{before, HasEntry, stamp}
pub use Rattle.qs_objects.specs.audit.Act.{account, act, ActResult, buffer, clamp_to_word, Content, grid, size_of, State}
pub use Rattle.qs_objects.specs.audit.Journals.{after, answer, IsHonest, replay, without_tickets}
pub use Rattle.qs_objects.specs.audit.Objects.{between, fresh, kind_of, starts}
pub use Rattle.qs_objects.specs.audit.Operations.{is_query}
pub use Rattle.qs_objects.specs.audit.Parts.{command_event, entries_of, IsFront, part, same}
pub use Rattle.qs_objects.specs.declared.Request.{Request}
pub use Rattle.qs_objects.specs.declared.held.Entry.{Entry}
pub use Rattle.qs_objects.specs.declared.held.Event.{Event}
pub use Rattle.qs_objects.specs.declared.held.Ticket.{Ticket}
pub use Rattle.qs_objects.specs.declared.object.Kind.{Kind}
pub use Rattle.qs_program.specs.Sound.{AreVariablesBelow, IsAtomBelow, IsExprBelow, IsSound, IsSoundBody}
pub use Rattle.qs_program.specs.audit.Limits.{most_variables}
pub use Rattle.qs_program.specs.audit.Loads.{load_of}
pub use Rattle.qs_program.specs.audit.Program.{block_at, blocks_of, BlockShape, client_at, ClientShape, no_block, no_client, no_object, object_at, ProgramShape, text_of}
pub use Rattle.qs_program.specs.audit.Sound.{is_in}
pub use Rattle.qs_program.specs.audit.Statements.{again, assign, choose, command, end, leave, query, Statements}
pub use Rattle.qs_program.specs.audit.Values.{atom_value, exact, expr_value, Locals, relates, request_of, test_value}
pub use Rattle.qs_program.specs.declared.program.Declared.{Declared}
pub use Rattle.std.proofs.lemmas.Bool.{cases_Bool}
pub use Rattle.std.proofs.lemmas.Bool.Decides.{nat_tests}
pub use Rattle.std.proofs.lemmas.List.{append-nil, drop-set-lt, get_or-map, get_or-set_other, get_or-set_same, get_or_past, length-map, length-replicate, length-set, map-append, take-append-drop}
pub use Rattle.std.proofs.lemmas.List.Elements.{filter-append}
pub use Rattle.std.specs.List.{AllByRecursion, AllZip, list_any}
pub use Rattle.std.specs.Prelude.{IsSome}
