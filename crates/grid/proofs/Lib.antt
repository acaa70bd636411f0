pub mod Flows
pub mod Sums
