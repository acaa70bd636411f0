pub mod Numbers
pub mod Bodies
pub mod Records
pub mod Order
pub mod Seen
pub mod File
