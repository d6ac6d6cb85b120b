-- What an auditor reads: the promises and the calls of the surface are said with these.
pub mod CoreClients
pub mod CoreHandlers
pub mod LaneStates
pub mod CarriedRequests
