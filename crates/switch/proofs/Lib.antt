-- Steps of the proofs that several functions share.
pub mod Chosen
pub mod Counted
pub mod Stepped
