pub mod Table
pub mod Numbers
pub mod Refusals
pub mod Weights
