pub mod InHand
pub mod Needed
pub mod Replied
pub mod Written
pub mod Named
