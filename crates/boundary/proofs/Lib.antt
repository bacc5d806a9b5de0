-- Laws that belong to no one function.
pub mod Numbers
pub mod Bounds
pub mod Held
pub mod Unpacked
pub mod Once
