pub mod Walks
pub mod Moves
pub mod Shifts
pub mod Parts
pub mod Fresh
pub mod Rows
pub mod Pools
