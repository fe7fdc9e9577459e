pub mod LocateLines
pub mod LocateAnswer
pub mod LocateCountryAnswer
pub mod private
