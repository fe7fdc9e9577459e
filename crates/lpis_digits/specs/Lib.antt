pub mod Digits
pub mod private
