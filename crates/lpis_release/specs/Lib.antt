pub mod Parcels
pub mod Release
pub mod Weighted
pub mod Equality
pub mod private
