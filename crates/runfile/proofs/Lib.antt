pub mod Parts
pub mod Bytes
pub mod Stand
pub mod Whole
