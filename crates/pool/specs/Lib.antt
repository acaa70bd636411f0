pub mod Queues
pub mod Held
