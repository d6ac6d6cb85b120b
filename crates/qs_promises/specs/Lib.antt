-- What has to be believed for the headline.
pub mod audit
-- What is promised, sentence by sentence: whoever relies on it has to read these.
pub mod Runs
pub mod AsIfSerial
pub mod SerialOrder
pub mod BlockAlone
pub mod Undisturbed
pub mod Finished
pub mod Outcomes
pub mod Fronts
pub mod Answers
pub mod AsAsked
pub mod Determined
pub mod GoesOn
pub mod EnoughRounds
pub mod EveryBeginning
-- What only the proofs of the first four use.
pub mod Isolated
