pub mod Linking
pub mod Refusals
pub mod Scattering
pub mod Making
pub mod Dealers
