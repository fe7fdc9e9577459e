pub mod Codes
pub mod Faults
pub mod Open
pub mod Joined
pub mod Laws
pub mod private
