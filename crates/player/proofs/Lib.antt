pub mod Inside
pub mod Ticked
pub mod QuietTicks
pub mod Offered
