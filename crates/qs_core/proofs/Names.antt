-- What proofs of this crate and of those above it name of the crates below, and of the definitions here, from one place.
pub use Rattle.qs_client.proofs.rules.Puts.{put_same, put_set_at}
pub use Rattle.qs_core.specs.CoreEffects.{core_effect, core_requests, effect_of_client, effect_of_handler}
pub use Rattle.qs_core.specs.CoreEffects.{requests_of_handler}
pub use Rattle.qs_core.specs.CoreOrders.{CoreGoes}
pub use Rattle.qs_core.specs.parts.CarriedRequests.{first_requests, sent_requests}
pub use Rattle.qs_core.specs.parts.CoreClients.{CoreClientState}
pub use Rattle.qs_core.specs.parts.CoreHandlers.{CanEnterAll, CoreHandlerState, IsCoreHandler, MayCome, TakesTicket}
pub use Rattle.qs_core.specs.parts.CoreHandlers.{beside, core_handler_at, gives_up, handler_with_act, is_waiting}
pub use Rattle.qs_core.specs.parts.CoreHandlers.{lane_step_of_handler, no_core_handler, takes_first, turns_to}
pub use Rattle.qs_core.specs.parts.CoreHandlers.{with_ticket, with_ticket_at, with_ticket_at_all}
pub use Rattle.qs_core.specs.parts.LaneStates.{IsStocked, LaneState, fresh_lane, lane_at}
pub use Rattle.qs_core.specs.shown.CoreShown.{TurnsTo, are_clear, is_clear, is_through, most_syncs}
pub use Rattle.qs_core.specs.state.CoreState.{ClientPart, CoreState, IsCoreState, IsFreshClient, client_part}
pub use Rattle.qs_core.specs.state.CoreState.{client_part_at, core_from, core_handler_of, no_client_part, tickets_at}
