pub mod Codes
pub mod GoodCertificate
pub mod FirstFault
pub mod ExactBlocks
pub mod SoundMap
pub mod TurnsAdd
pub mod Laws
pub mod private
