pub mod Changed
pub mod Shares
pub mod Refused
pub mod Sums
