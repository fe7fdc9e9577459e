pub mod Codes
pub mod Fans
pub mod Refusals
pub mod private
