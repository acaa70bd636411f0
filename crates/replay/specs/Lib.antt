-- What the contracts cite.
pub mod Kinds
pub mod Named
pub mod Replay
pub mod Events
pub mod Follows
pub mod Laws
pub mod Examples
