pub mod Beginning
pub mod CountryAnswer
pub mod CountryFailures
pub mod CountryRun
pub mod CountryLines
pub mod Regions
pub mod RegionsOutcome
pub mod private
