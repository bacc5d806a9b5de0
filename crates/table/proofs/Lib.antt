-- Laws of this crate's pass over the rows, of the order of rows and of checks, and of common multiples.
pub mod Faults
pub mod InOrder
pub mod Multiples
pub mod OnePass
pub mod Checked
