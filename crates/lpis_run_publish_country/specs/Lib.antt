pub mod CountryLineage
pub mod PublishCountryAnswer
pub mod PublishCountryRuns
pub mod ExactCountryAnswer
pub mod private
