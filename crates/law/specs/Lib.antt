-- What the contracts cite.
pub mod Queues
pub mod Port
pub mod Shares
pub mod Journeys
pub mod Step
pub mod Runs
pub mod Promises
pub mod Rules
pub mod Examples
pub mod Plans
