pub mod Releases
pub mod Shapes
pub mod private
