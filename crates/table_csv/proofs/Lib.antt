-- Laws of this crate's definitions.
pub mod Fields
pub mod Numbers
pub mod Rows
pub mod Lines
