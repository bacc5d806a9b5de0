-- Laws that belong to no one function.
pub mod Laid
pub mod Decimal
pub mod Once
