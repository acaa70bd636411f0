-- What the contracts cite.
pub mod Flow
pub mod Fluid
pub mod Marks
pub mod Stamps
pub mod Order
