-- The words and lemmas of the crates below, and of specs/, that the proofs here use.
pub use Rattle.qs_objects.specs.audit.Act.{State}
pub use Rattle.qs_objects.specs.audit.Journals.{after, replay, unstamp, without_tickets}
pub use Rattle.qs_objects.specs.audit.Objects.{values_of}
pub use Rattle.qs_objects.specs.declared.held.Entry.{Entry}
pub use Rattle.qs_objects.specs.declared.held.Ticket.{Ticket}
pub use Rattle.qs_played.specs.audit.Played.{Played}
pub use Rattle.qs_program.specs.audit.Program.{object_at, ProgramShape}
pub use Rattle.qs_standings.specs.Standings.{configuration_in}
pub use Rattle.qs_svg.specs.Shapes.{Draws}
pub use Rattle.qs_svg.specs.audit.Blocks.{cell, column, columns_left, columns_text, left_shapes, left_text, more_symbols, more_text, request_shapes, row, row_end, row_left, row_name, state_shapes}
pub use Rattle.qs_svg.specs.audit.Blocks.{stretch_frame, stretch_shapes, symbols, sync_symbols, sync_text, whole_cell}
pub use Rattle.qs_svg.specs.audit.Legend.{client_shapes, sign_shapes}
pub use Rattle.qs_svg.specs.audit.Places.{band_y, bands_of, first_row, last_row, layout_of, row_y, symbol_x, symbol_y}
pub use Rattle.qs_svg.specs.audit.RunSvg.{client_end, client_line, end_shapes, ground, has_variables, heading, legend_shapes, lines_before, row_shapes, run_shapes}
pub use Rattle.qs_svg.specs.audit.Shapes.{fitted_text, Shape, shapes_up_to}
pub use Rattle.qs_svg.specs.audit.Stretches.{all_columns, columns_of, ended_at, entries_for, journal_of, most_columns, most_symbols, no_entry, queries_in, reserves, sent_for, state_at, stretch}
pub use Rattle.qs_svg.specs.audit.Stretches.{stretch_fates, stretch_start, syncs_at, ticket_at}
pub use Rattle.qs_svg.specs.audit.Words.{declared_words, object_told, reserved_words, state_words, ticket_told, told_in, value_room, value_size, variable_words}
pub use Rattle.qs_sync_counts.specs.audit.SyncRows.{count_of, object_of}
pub use Rattle.qs_text.proofs.Parts.{all_that_is, last, one_text_more, then}
pub use Rattle.qs_text.specs.Texts.{Puts}
pub use Rattle.qs_text.specs.audit.Texts.{spaced_value, texts_up_to}
pub use Rattle.qs_text.specs.audit.Words.{first_ticket, request_text}
pub use Rattle.qs_text.specs.audit.fates.Fates.{fates_from, fates_of}
pub use Rattle.qs_text.specs.declared.fates.fate.Fate.{Fate}
pub use Rattle.qs_text.specs.declared.fates.fate.Fate.TheVariants.{Done}
pub use Rattle.std.proofs.Common.{[], add-one, ap, append-nil, append_assoc, ap₂, arith, Bool, codes, drop, Err, false, flat_map, get_or, if◌then◌else◌, length, length-append, List, map, max, min}
pub use Rattle.std.proofs.Common.{nat_eq, nat_le, nat_lt, None, Ok, OnOk, Option, pos, refl, Result, rules, slice_get, slice_index_or, slice_range, Some, subst, suc, sym, take, true, true≢false, w64}
pub use Rattle.std.proofs.Common.{zero, ℕ, ℤ, ⊎_elim, ◌&&◌, ◌*◌, ◌++◌, ◌+◌, ◌-◌, ◌/◌, ◌<◌, ◌==◌, ◌∙◌, ◌∷◌, ◌≡◌, ◌≢◌, ◌≤◌}
pub use Rattle.std.proofs.Math.Seq.{drop-append_seam, drop-cons, take-append_seam}
pub use Rattle.std.proofs.lemmas.Bool.Decides.{nat_tests}
pub use Rattle.std.proofs.lemmas.Int.{to_z-of_z}
pub use Rattle.std.proofs.lemmas.List.{drop-drop, get_or_default, length-drop, length-map, map-append}
pub use Rattle.std.proofs.lemmas.List.Folds.{concat-append, drop_split}
