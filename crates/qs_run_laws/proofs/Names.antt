-- What proofs of this crate and of those above it name of the crates below, and of the definitions here, from one place.
pub use Rattle.qs_handler.specs.HandlerTurns.{HasTurns, Turn, TurnsLead, turns_for}
pub use Rattle.qs_desk.specs.audit.Tickets.{of_client, of_handler}
pub use Rattle.qs_run_laws.specs.audit.ThreadRuns.{IsThreadRun, ThreadRun}
