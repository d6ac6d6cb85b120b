-- What an auditor reads: the promises and the calls of the surface are said with these.
pub mod Clients
pub mod Frames
pub mod Queues
pub mod PreparedBlock
-- What crates promise one another, what proofs use, and worked examples.
pub mod Asking
pub mod FreshClients
pub mod ClientMoves
pub mod FrameViews
pub mod Growing
pub mod Opening
pub mod ReplyDelivery
pub mod TraceMoves
