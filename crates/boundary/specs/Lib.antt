pub mod Packed
pub mod Bytes
pub mod Crossing
