pub mod Commands
pub mod Files
pub mod Usage
pub mod Words
pub mod private
