-- What has to be believed for the headline.
pub mod audit
-- What an auditor reads: the promises and the calls of the surface are said with these.
pub mod Views
pub mod Tickets
pub mod Places
pub mod TicketQueues
pub mod Wakings
-- What crates promise one another, what proofs use, and worked examples.
pub mod Limits
pub mod Plans
pub mod Desks
