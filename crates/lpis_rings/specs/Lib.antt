pub mod Ring
pub mod Polygon
pub mod Area
pub mod AreaBounds
pub mod Edges
pub mod Map
pub mod MapLaws
pub mod private
