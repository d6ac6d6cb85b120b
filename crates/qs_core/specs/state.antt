-- What an auditor reads: the promises and the calls of the surface are said with these.
pub mod CoreState
pub mod CoreStuck
