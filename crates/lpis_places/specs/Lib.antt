pub mod Numbers
pub mod Codes
pub mod Points
pub mod Places
pub mod private
