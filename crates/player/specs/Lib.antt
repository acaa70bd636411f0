-- What the contracts cite.
pub mod Held
pub mod Signs
pub mod Plays
pub mod Named
