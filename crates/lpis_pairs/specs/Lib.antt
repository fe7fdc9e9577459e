pub mod NearPairs
pub mod private
