pub mod All
pub mod Permutations
pub mod Canonical
pub mod Passed
pub mod Alike
pub mod Reordering
