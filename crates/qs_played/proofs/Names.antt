-- What proofs of this crate and of those above it name of the crates below, and of the definitions here, from one place.
pub use Rattle.std.proofs.Math.ListN.{get_or-append, get_or-eq_default, set}
pub use Rattle.std.proofs.Math.Path.{fun_ext}
pub use Rattle.std.proofs.Math.Seq.{drop-cons, get_or-append_seam, map-set_same, take-set-lt}
pub use Rattle.std.proofs.lemmas.Bool.{cases_lt, false≢true, lt-ltb, or_parts}
pub use Rattle.std.proofs.lemmas.Iterator.Adapters.{YieldsList-from_vec}
pub use Rattle.std.proofs.lemmas.Iterator.Consumers.{YieldsList-end, YieldsList-turn}
pub use Rattle.std.proofs.lemmas.List.{append-nil, drop-set-add, drop-set-lt, drop_all, get_or-drop, get_or-map}
pub use Rattle.std.proofs.lemmas.List.{get_or-set_other, get_or-set_same, get_or_append_left, get_or_past, get_or_push}
pub use Rattle.std.proofs.lemmas.List.{length-append, length-drop, length-map, length-replicate, length-set}
pub use Rattle.std.proofs.lemmas.List.{length_push, map-append, map-id, map-set, map_push, nil_from_length}
pub use Rattle.std.proofs.lemmas.List.{reverse-append, reverse-reverse, set-get_or, set_past, take_more}
pub use Rattle.std.proofs.lemmas.List.Elements.{AllZip-push, filter-append, length_all_zip}
pub use Rattle.std.proofs.lemmas.List.FromFn.{fill_by_all, get_or-map-range_with_len, length-map-range_with_len}
pub use Rattle.std.proofs.lemmas.List.FromFn.{length-range_with_len, map-range_with_len_more}
pub use Rattle.std.proofs.lemmas.List.Sums.{fold-append, sum_by-append, sum_by-cons, sum_by-le-sum_by, sum_by-set}
pub use Rattle.std.proofs.lemmas.List.Sums.{sum_by_push}
pub use Rattle.std.proofs.lemmas.Map.Keys.{IsDistinct-head, IsDistinct-tail}
pub use Rattle.std.proofs.lemmas.Option.{get_or_from_slice_get, none-some, same_Some, slice_get-map, slice_get_past}
pub use Rattle.std.proofs.lemmas.Option.{slice_get_read, slice_get_within, unwrap_or-slice_get}
pub use Rattle.std.specs.Bool.{Decides, OnTrue}
pub use Rattle.std.specs.List.{AllByRecursion, AllZip, list_any, range_with_len}
pub use Rattle.std.specs.Prelude.{Err, IfErr, IfNone, IfOk, IfSome, IsErr, IsOk, IsSome, IsTrue, Ok, Option, Result}
pub use Rattle.std.specs.Prelude.{reverse, slice_index_or, slice_set, sum_by, unwrap_or, vec_capacity, ℤ}
pub use Rattle.std.specs.Vec.Iter.{into_iter_items, into_iter_len}
pub use Rattle.qs_objects.proofs.Choices.{and_cases, apart_eqb, eqb_apart, eqb_self, eqb_true, not_same, num_cases}
pub use Rattle.qs_objects.proofs.Choices.{same_apart, same_self, ticket_cases, ticket_path}
pub use Rattle.qs_objects.proofs.Elements.{AllByRecursion-get_or}
pub use Rattle.qs_objects.proofs.ObjectLaws.{command_is, never_answers}
pub use Rattle.qs_objects.proofs.Replays.{IsHonest-append, IsHonest-back, IsHonest-front, replay-append}
pub use Rattle.qs_objects.specs.Parts.{HasEntry, before, stamp}
pub use Rattle.qs_objects.specs.audit.Act.{State, act}
pub use Rattle.qs_objects.specs.audit.Journals.{HeldState, IsHonest, after, has_room, replay, run_one, unstamp}
pub use Rattle.qs_objects.specs.audit.Journals.{with_entry, without_tickets}
pub use Rattle.qs_objects.specs.audit.Operations.{is_query}
pub use Rattle.qs_objects.specs.audit.Parts.{IsFront, command_event, entries_of, part, same}
pub use Rattle.qs_objects.specs.declared.Request.{Request}
pub use Rattle.qs_objects.specs.declared.held.Entry.{Entry}
pub use Rattle.qs_objects.specs.declared.held.Event.{Event}
pub use Rattle.qs_objects.specs.declared.held.Ticket.{Ticket}
pub use Rattle.qs_sync_counts.specs.SyncRows.{AreFew, CountsState, begun_rows, greatest_count, syncs_for}
pub use Rattle.qs_sync_counts.specs.audit.SyncRows.{fresh_rows, no_syncs, object_of, sync_count, syncs_of, with_sync}
pub use Rattle.qs_sync_counts.specs.declared.sync_counts.SyncCount.{SyncCount}
pub use Rattle.qs_program.proofs.Bounds.{block_load-whole, is_in-sum_by, sound_block}
pub use Rattle.qs_program.specs.Sound.{IsSound, IsSoundBlock, IsSoundBody, IsSoundCall, IsSoundClient}
pub use Rattle.qs_program.specs.Views.{statements_of}
pub use Rattle.qs_program.specs.audit.Limits.{most_blocks, most_clients, most_handlers, most_objects}
pub use Rattle.qs_program.specs.audit.Limits.{most_variables}
pub use Rattle.qs_program.specs.audit.Loads.{load_of}
pub use Rattle.qs_program.specs.audit.Program.{BlockShape, ClientShape, ProgramShape, block_at, block_load, blocks_of}
pub use Rattle.qs_program.specs.audit.Program.{no_block, no_client, text_of}
pub use Rattle.qs_program.specs.audit.Sound.{is_in}
pub use Rattle.qs_program.specs.audit.Statements.{Statements, leave}
pub use Rattle.qs_program.specs.audit.Values.{Locals, expr_value, request_of, test_value}
pub use Rattle.qs_program.specs.declared.program.Declared.{Declared}
pub use Rattle.qs_meaning.proofs.Each.{each_back, each_both, each_front, each_join, each_kept, each_map, each_passes}
pub use Rattle.qs_meaning.proofs.Each.{each_snoc, each_unfiltered, every, flat_map_same, map_same, zip_at}
pub use Rattle.qs_meaning.proofs.Histories.{Among, Apart, Flow, InTurn, IsTicketByTicket, NoQuery, ObjectCourse}
pub use Rattle.qs_meaning.proofs.Histories.{OnlyCommands, PartIs, Through, advance, among_apart, done_of, parts_of}
pub use Rattle.qs_meaning.proofs.Histories.{ticket_by_ticket, unstamp_all}
pub use Rattle.qs_meaning.proofs.Orders.{complete_orders_leave_none, configuration-append, legal-rest, legal_on}
pub use Rattle.qs_meaning.proofs.RequestPaths.{requests_within}
pub use Rattle.qs_meaning.proofs.SerialRuns.{Agrees, legal_apart, line, runs_serially}
pub use Rattle.qs_meaning.proofs.SoundTrees.{blocks_ask_only}
pub use Rattle.qs_meaning.proofs.TreeWalks.{asks_rest, leads_call, leads_query, part_snoc_here, part_snoc_there}
pub use Rattle.qs_meaning.proofs.TreeWalks.{put_here, put_there, unnamed}
pub use Rattle.qs_meaning.specs.Alike.{HasValues, SameStatements, SameText, SameTrace, SameValues}
pub use Rattle.qs_meaning.specs.Alike.{object_name, value_at, variable_name}
pub use Rattle.qs_meaning.specs.BlockRecords.{Begins, BlockRecord, IsBlockRecord, IsDone}
pub use Rattle.qs_meaning.specs.Following.{AsksOnly, Leads, block_tree}
pub use Rattle.qs_meaning.specs.Serial.{SerialBlock, serial, serial_from}
pub use Rattle.qs_meaning.specs.audit.Configurations.{Configuration, IsComplete, configuration_after}
pub use Rattle.qs_meaning.specs.audit.Configurations.{configuration_from, first_configuration, one_block_on}
pub use Rattle.qs_meaning.specs.audit.Following.{reserves}
pub use Rattle.qs_meaning.specs.audit.Interaction.{Interaction, Query, tree_of}
pub use Rattle.qs_meaning.specs.audit.Serial.{IsLegal, LegalFrom, declared_states, no_state, zeros}
pub use Rattle.qs_meaning.specs.audit.Solo.{States, event, put, solo, value_of}
pub use Rattle.qs_syncset.proofs.ShortLists.{few_reserved}
pub use Rattle.qs_syncset.proofs.SyncTrees.{IsAsking, IsQueryOf, command_asks_none, query_counts}
pub use Rattle.qs_syncset.specs.SyncCounts.{IsSentBy, queries, syncs_along}
pub use Rattle.qs_played.specs.Isolation.{IsFitting, entry_of}
pub use Rattle.qs_played.specs.Played.{ClientRows, HasRows, HaveRows, counts_of_ticket, entry_in, no_events, rows_at}
pub use Rattle.qs_played.specs.Played.{shown_with, trace_in}
pub use Rattle.qs_played.specs.SyncSums.{AreListed, AreSent, IsCounted, counts_at, syncs_at}
pub use Rattle.qs_played.specs.audit.Isolation.{ended_of, journal_of, state_of, ticket_at, trace_of}
pub use Rattle.qs_played.specs.audit.JournalRooms.{fresh_held, room_in, room_of}
pub use Rattle.qs_played.specs.audit.Played.{Played, ticket}
pub use Rattle.qs_played.specs.audit.Schedule.{HasStep, actors_of, all_named, most_rounds, names_actor, or_stay}
pub use Rattle.qs_played.specs.audit.Schedule.{plays_by, queries_in, rounds_of, schedule}
pub use Rattle.qs_played.specs.declared.schedule.actor.Actor.{Actor}
pub use Rattle.qs_played.specs.twin.Twins.{Agreement, IsReserved, IsStart, SameObjects, SameVariables, TextsAlike}
pub use Rattle.qs_played.specs.twin.Twins.{shorter}
