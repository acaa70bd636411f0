pub mod Held
pub mod Cells
