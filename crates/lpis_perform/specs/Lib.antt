pub mod Opening
pub mod Performance
pub mod Standing
pub mod private
