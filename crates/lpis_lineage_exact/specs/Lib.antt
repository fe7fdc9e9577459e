pub mod ExactLineage
pub mod Shapes
pub mod Asking
pub mod private
