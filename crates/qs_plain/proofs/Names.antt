-- What proofs of this crate and of those above it name of the crates below, and of the definitions here, from one place.
pub use Rattle.qs_objects.specs.Traces.{AreEmptyAfter, TraceState, empty_trace, events_of, noted_at, trace_at}
pub use Rattle.qs_objects.specs.Traces.{trace_state, with_last_event}
pub use Rattle.qs_sync_counts.proofs.CountRows.{begun_all, begun_beyond, begun_next, begun_none, few_in, few_more}
pub use Rattle.qs_sync_counts.proofs.CountRows.{few_none, length_begun}
pub use Rattle.qs_played.proofs.ShownRuns.{if_shown}
pub use Rattle.qs_plain_laws.proofs.Ordering.{IsOrdered, ordered_begin, ordered_plays, tickets_begun}
pub use Rattle.qs_plain.specs.BegunBlocks.{AreBegun, AreOwn, AreRows}
pub use Rattle.qs_plain.specs.Blocks.{IsOneBlockOn, blocks_begun}
pub use Rattle.qs_plain.specs.Rules.{AreIsolated, AreRulesCounted, IsOpen, IsRules, RulesState, Steps, is_in_block}
pub use Rattle.qs_plain.specs.Rules.{plain_of, to_come}
pub use Rattle.qs_plain.specs.StepEffects.{HasDone, IsShortStep, effect_of_did, last_ticket}
pub use Rattle.qs_plain.specs.client.Asking.{AreSound, IsSoundFrame}
pub use Rattle.qs_plain.specs.client.ClientMoves.{AsksNext, Replies, RepliesAt, after_moves, begun_with}
pub use Rattle.qs_plain.specs.client.Clients.{AreRowsOf, AreStored, ClientState, IsClient, IsFresh, IsReady, IsStaged}
pub use Rattle.qs_plain.specs.client.Clients.{IsWithin, absent, block_of_state, client_from, client_of_state}
pub use Rattle.qs_plain.specs.client.Clients.{client_state_at, current_block, current_counts, current_trace, stage_of}
pub use Rattle.qs_plain.specs.client.FrameViews.{Stack, frame_of}
pub use Rattle.qs_plain.specs.client.Frames.{Ahead, Frame, above, ahead_of, frame_load, frame_work, inside, load_left}
pub use Rattle.qs_plain.specs.client.Frames.{next_of, places_of, rest, turning, work, work_of}
pub use Rattle.qs_plain.specs.client.Opening.{Assigns, IsAside, Opens}
pub use Rattle.qs_plain.specs.client.PreparedBlock.{AreQueues, IsReadyQueue, PreparedState, prepared_of, reserved_lists}
pub use Rattle.qs_plain.specs.client.PreparedBlock.{rooms_of}
pub use Rattle.qs_plain.specs.client.Queues.{AreApart, IsPlace, QueueState, after_put}
pub use Rattle.qs_plain.specs.client.TraceMoves.{counted_in, last_of, no_trace, noted_in}
pub use Rattle.qs_plain.specs.declared.client.stage.Stage.{Stage}
pub use Rattle.qs_plain.specs.handler.Effects.{answered, effect_of_client, effect_of_queue, effect_of_queues}
pub use Rattle.qs_plain.specs.handler.Effects.{effect_of_rest, plain_effect, reply_in, reply_of, unanswered}
pub use Rattle.qs_plain.specs.handler.Handlers.{CanEnter, CanEnterAll, CanLog, CanLogAll, entered_all, entered_at}
pub use Rattle.qs_plain.specs.handler.Handlers.{handler_state_at, logged_all, logged_at, nobody, with_logged_item}
pub use Rattle.qs_plain.specs.handler.Handlers.{with_queue}
pub use Rattle.qs_plain.specs.handler.Served.{HandlerState, IsLoggable, ServesFirst, ServesItem, handler_of_state}
