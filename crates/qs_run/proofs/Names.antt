-- What proofs of this crate and of those above it name of the crates below, and of the definitions here, from one place.
pub use Rattle.qs_objects.specs.declared.held.Next.{Next}
pub use Rattle.qs_tally.specs.Counting.{AreTabled, IsAdded, IsBegun, IsCounted, not_yet}
pub use Rattle.qs_tally.specs.Tallies.{CameTo, CountedShape, HasCome, IsCountOf, standings_in}
pub use Rattle.qs_desk.specs.Tickets.{IsFor}
pub use Rattle.qs_desk.specs.Views.{DeskView, ShareView, TicketsView}
pub use Rattle.qs_lane.specs.Views.{InView, OutView}
pub use Rattle.qs_run_laws.specs.Outcomes.{IsOutcome}
pub use Rattle.qs_run.specs.Collected.{AreAllJoined, AreAllPaired, AreCountsShort, AreEndsJoined, AreLanesJoined, AreLanesPaired, HasTakenAll, IsBooked, shown_when_over, without_lane_of}
pub use Rattle.qs_run.specs.Collected.{without_lanes_below, worker_journal, worker_rows, worker_state}
pub use Rattle.qs_run.specs.Groups.{IsWith, WasAsked, WasAskedFrom, inside_of}
pub use Rattle.qs_run.specs.Prepared.{AreNewEnds, IsClientOf, IsHandlerOf, IsNewIn, IsNewOut, ever_reserves, in_at, out_at}
pub use Rattle.qs_run.specs.Starts.{AreAnswers, IsRefusal, IsRefusedAStart, LetAllStart, worker_count}
pub use Rattle.qs_run.specs.Workers.{AreOneLane, AreReady, ClientHasRun, HandlerHasServed, HasFollowed, HaveRun, IsListOf, IsMindAtStart, IsObjectAtStart}
pub use Rattle.qs_run.specs.declared.worker.ClientWorker.{ClientWorker}
pub use Rattle.qs_run.specs.declared.worker.HandlerWorker.{HandlerWorker}
pub use Rattle.qs_run.specs.handler.Passes.{ArePassed}
pub use Rattle.qs_run.specs.many.Refusals.{IsRefusedTally, LetRunsStart}
pub use Rattle.qs_run.specs.many.Repeats.{AreAsTheyCame, CameFirstBy, IsTallyBy}
pub use Rattle.qs_core_laws.proofs.Names.{Act, AreCodes, Batch, ClientCode, ClientModel, Deed, DeedsLead, Handler, IsCodeOf, IsLaneRun, MayFollow, MindState, Mode, Parcel, RunsTo, Task}
pub use Rattle.qs_core_laws.proofs.Names.{TasksLead, batch, closed, finish, free, fresh_mind, given_to, got_from, hands_out, is_asked, is_away, may_stand, mind_after_begin, mind_after_chunk}
pub use Rattle.qs_core_laws.proofs.Names.{mind_after_object, mind_of, next_act, next_mind, next_ticket, no_block_beyond, parcels_stand, received_from, reservations, reserved_inside, sent_to}
pub use Rattle.qs_core_laws.proofs.Names.{serving, syncs, taken_by, tickets_are_asked_for}
pub use Rattle.qs_core_laws.proofs.protocol.DeedJoins.{deeds_join, got_join, reservations_join, sent_join}
pub use Rattle.qs_desk.specs.Places.{places, share_at}
pub use Rattle.qs_desk.specs.TicketQueues.{tickets_at}
pub use Rattle.qs_desk.specs.audit.Tickets.{of_client, pushed_to}
pub use Rattle.qs_handler.specs.audit.Handler.{gave}
pub use Rattle.qs_played.proofs.Names.{AllByRecursion, AllZip, BlockShape, Declared, HeldState, IfErr, IfOk, IsComplete, IsErr, IsLegal, IsSome, IsSound, IsSoundBlock, IsSoundClient, IsTrue}
pub use Rattle.qs_played.proofs.Names.{Played, ProgramShape, Request, Ticket, apart_eqb, blocks_of, each_map, each_snoc, eqb_self, false≢true, fresh_held, get_or-map, get_or-set_other}
pub use Rattle.qs_played.proofs.Names.{get_or_from_slice_get, get_or_past, into_iter_items, is_in, length-map, length_all_zip, length_push, list_any, map-append, most_clients, most_handlers}
pub use Rattle.qs_played.proofs.Names.{most_objects, none-some, num_cases, reserves, same_Some, slice_get-map, slice_get_past, slice_get_read, slice_get_within, slice_index_or, slice_set}
pub use Rattle.qs_played.proofs.Names.{ticket, vec_capacity}
pub use Rattle.qs_played.specs.declared.fault.RunFault.{RunFault}
pub use Rattle.qs_program.specs.audit.Program.{client_at}
pub use Rattle.qs_run.specs.client.ClientThreads.{HasDone, chunks_of, out_lane_at}
pub use Rattle.qs_run.specs.client.RunActs.{IsMidRun, lane_of}
pub use Rattle.qs_run.specs.handler.HandlerThreads.{HasServed, IsAllServed, IsFresh, IsServing, in_lane_at, spared_to}
pub use Rattle.qs_run_laws.specs.audit.ThreadRuns.{IsThreadRun, ThreadRun}
pub use Rattle.qs_standings.specs.Rows.{rows_in}
pub use Rattle.qs_tally.proofs.Counts.{counted_on, same_standings, standing_of, times_within}
pub use Rattle.std.proofs.lemmas.List.{with_items_is}
pub use Rattle.std.specs.Option.{option_map}
