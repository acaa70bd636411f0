-- What a running switch shows, and what each call answers and leaves.
pub mod Calls
pub mod Shown
