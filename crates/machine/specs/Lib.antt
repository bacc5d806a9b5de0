pub mod Paint
pub mod Turns
pub mod Least
pub mod Machine
pub mod Begun
