pub mod BoxLemmas
pub mod FaultyMapLemmas
pub mod IslandLemmas
pub mod ListLemmas
pub mod SoundMapLemmas
pub mod StripLemmas
