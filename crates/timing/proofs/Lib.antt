pub mod Chosen
pub mod Firsts
pub mod Reduced
pub mod Scaled
pub mod Served
pub mod Stamped
pub mod WholeTicksFirst
